-- A variant is read attribute by attribute.
use Rattle.std.proofs.Common.{◌≡◌, ℕ, List, [], ◌∷◌, ◌++◌, codes, Option, Some, Result, Ok, Err, unwrap_or, refl, sym, ◌∙◌, ap}
use Rattle.bridge_io.specs.{Firsts.first_some, declared.place.Place.Place}
use Rattle.hls_lines.specs.Attributes.{NameValue, value_of}
use Rattle.mpd_values.specs.Numbers.{numeral_of}
use Rattle.hls_master.specs.{declared.fault.MasterFault.MasterFault, Addresses.{address_fault, address_value}, Faults.answer}
use Rattle.hls_master.specs.{Renditions.{missing, malformed, text_at}, Values.is_bandwidth, Variants.{ShownValue, VariantValue}}
use Rattle.hls_master.specs.Variants.{shown_faults, shown_value, variant_faults, variant_with}
use Rattle.hls_master.proofs.Answers.{no_fault, value_is, fault_is, is_found, behind_none, before_more}

-- behind a BANDWIDTH within its bounds
module _ (master uri : List ℕ) (place uri_place : Place) (attributes : List NameValue) (text : List ℕ) (bandwidth : ℕ)
    (there : Ok text ≡ answer (missing place (value_of (codes "BANDWIDTH") attributes)) (text_at (codes "BANDWIDTH") attributes))
    (within : Ok bandwidth ≡ answer (malformed is_bandwidth place (Some text)) (unwrap_or (numeral_of text) 0)) where
  abbrev meaning : Result VariantValue MasterFault
  meaning = answer (first_some (variant_faults master place uri uri_place attributes)) (variant_with master place uri attributes)

  found : value_of (codes "BANDWIDTH") attributes ≡ Some text
  found = is_found (value_of (codes "BANDWIDTH") attributes) place text (sym there)

  abbrev more : List (Option MasterFault)
  more = shown_faults place attributes ++ address_fault master uri_place uri ∷ []

  two_pass : first_some (variant_faults master place uri uri_place attributes) ≡ first_some more
  two_pass = let fine = no_fault (malformed is_bandwidth place (Some text)) _ _ (sym within) in rw (found, fine) refl

  pub shown_stops : (fault : MasterFault) → Err fault ≡ answer (first_some (shown_faults place attributes)) (shown_value attributes)
      → meaning ≡ Err fault
  shown_stops fault e =
      ap (λ f. answer f (variant_with master place uri attributes)) (two_pass
      ∙ before_more (shown_faults place attributes) (address_fault master uri_place uri ∷ []) fault (fault_is _ _ _ (sym e)))

  module _ (shown : ShownValue) (shows : Ok shown ≡ answer (first_some (shown_faults place attributes)) (shown_value attributes)) where
    last_left : first_some (variant_faults master place uri uri_place attributes) ≡ first_some (address_fault master uri_place uri ∷ [])
    last_left = two_pass ∙ behind_none (shown_faults place attributes) (address_fault master uri_place uri ∷ [])
        (no_fault _ _ _ (sym shows))

    pub address_stops : (fault : MasterFault) → answer (address_fault master uri_place uri) (address_value master uri) ≡ Err fault
        → meaning ≡ Err fault
    address_stops fault e = let stop = fault_is (address_fault master uri_place uri) _ _ e in
        ap (λ f. answer f (variant_with master place uri attributes)) (last_left ∙ ap (λ f. first_some (f ∷ [])) stop)

    pub is_read : (address : List ℕ) → answer (address_fault master uri_place uri) (address_value master uri) ≡ Ok address
        → meaning ≡ Ok (record {
          place = place;
          bandwidth = bandwidth;
          shown = shown;
          audio = value_of (codes "AUDIO") attributes;
          subtitles = value_of (codes "SUBTITLES") attributes;
          address = address;
        })
    is_read address e =
        let none = no_fault (address_fault master uri_place uri) _ _ e in
        let first = last_left ∙ ap (λ f. first_some (f ∷ [])) none in
        let b = value_is (malformed is_bandwidth place (Some text)) _ _ (sym within) in
        let s = value_is _ _ _ (sym shows) in
        let a = value_is _ _ _ e in
        ap (λ f. answer f (variant_with master place uri attributes)) first ∙ ap Ok (rw (found, b, s, a) refl)
