-- Segments and maps of a playlist that is read have addresses, where its references are of bytes.
use Rattle.hls_media.specs.Media as media
use Rattle.hls_media.specs.declared.fault.MediaFault.TheVariants as fault
use Rattle.std.proofs.Common.{◌≡◌, ℕ, ◌==◌, ◌||◌, ◌<◌, length, inl, inr, Bool, true, false, List, [], ◌∷◌, All, Option, Some, None, IfSome}
use Rattle.std.proofs.{Common.{Result, Ok, Err, if◌then◌else◌, refl, sym, ap, subst}, lemmas.Bool.cases_Bool, lemmas.List.Elements.All-nil}
use Rattle.std.proofs.lemmas.List.Elements.{All-cons, All-append, All-head, All-tail}
use Rattle.std.specs.{Prelude.{codes, bytes_eq}, List.list_any}
use Rattle.bridge_io.proofs.AndThen.{steps_of}
use Rattle.bridge_io.specs.{Answer.and_then, declared.place.Place.Place, Places.place_of}
use Rattle.url_parts.specs.{Addresses.{IsAddress, resolve}, declared.address.Part.Part, declared.fault.UrlFault.UrlFault}
use Rattle.url_parts.proofs.Parsed.{resolved_is_address}
use Rattle.hls_lines.specs.{Attributes.{NameValue, attributes_of, value_of}, declared.fault.LineFault.LineFault, Lines.{PlaylistLine, tag}}
use Rattle.hls_lines.specs.Lines.{uri, is_uri, lines_of}
use Rattle.hls_media.specs.Media.{after, after_all, fault_in, line_fault, line_faults, map_at, map_in, map_of, map_value, segment_at}
use Rattle.hls_media.specs.{Media.{segment_lasting, segment_of, segment_value, with_fault, media_values}, Tags.tag_of, States.State}
use Rattle.hls_media.specs.{States.nothing, declared.fault.MediaFault.MediaFault, declared.media.MediaSegment.MediaSegment}
use Rattle.hls_media.proofs.{Bounded.{media_in-ok, read_lines_ok}, Meanings.{map_told, segment_told}}
use Rattle.laws_of_mpds.specs.Written.{HasAddresses, HaveAddresses, ReadHaveAddresses}
use Rattle.laws_of_mpds.proofs.{Bytes.{AreBytes, IsOfBytes, all_bytes, is_byte, lines_are_bytes}, Parts.{some_of, value_in}}

resolved : (place : Place) (r : Result (List ℕ) UrlFault) (address : List ℕ) → media.address_or_fault place r ≡ Ok address → r ≡ Ok address
resolved place (Ok a) address is = (let same : a ≡ address = cc in ap Ok same)
resolved place (Err f) address is = absurd (cc)

valued : {A : Type 0} (place : Place) (o : Option A) (a : A) → media.value_or_fault place o ≡ Ok a → o ≡ Some a
valued place (Some b) a is = (let same : b ≡ a = cc in ap Some same)
valued place None a is = absurd (cc)

attributed : (r : Result (List NameValue) LineFault) (attributes : List NameValue) → media.attributes_or_fault r ≡ Ok attributes
    → r ≡ Ok attributes
attributed (Ok a) attributes is = (let same : a ≡ attributes = cc in ap Ok same)
attributed (Err f) attributes is = absurd (cc)

abbrev IsByte : ℕ → Type 0
IsByte b = b < 256

module _ (url : List ℕ) (bytes : All IsByte url) where
  map_located : (rest : List ℕ) (place : Place) (part : Part) → AreBytes rest → map_of url rest place ≡ Ok part → IsAddress part.address
  unfolding map_of
  map_located rest place part of_bytes is =
      let one = steps_of (media.attributes_or_fault (attributes_of rest place)) (map_in url place) part is in
      let two = steps_of (media.value_or_fault place (value_of (codes "URI") one.value)) _ part one.then in
      let three = steps_of (media.map_range_of place (value_of (codes "BYTERANGE") one.value)) (map_at url place two.value) part two.then in
      let four = steps_of (media.address_or_fault place (resolve url two.value)) _ part three.then in
      let same : record { address = four.value; range = three.value } ≡ part = (let h = four.then in cc) in
      let of_uri = value_in is_byte (codes "URI") rest place one.value of_bytes
      (attributed (attributes_of rest place) one.value one.first) in
      let reference : All IsByte two.value =
      all_bytes two.value (some_of AreBytes (value_of (codes "URI") one.value) two.value of_uri
      (valued place (value_of (codes "URI") one.value) two.value two.first)) in
      subst (λ (p : Part). IsAddress p.address) same
      (resolved_is_address url two.value four.value bytes reference (resolved place (resolve url two.value) four.value four.first))

  at_located : (s : State) (text : List ℕ) (place : Place) (duration : ℕ) (segment : MediaSegment) → AreBytes text
      → segment_at url s text place duration ≡ Ok segment → IsAddress segment.address × (segment.map ≡ s.map)
  at_located s text place duration segment of_bytes is = go (length s.segments == media.most_segments) is where
    go : (b : Bool) → (if b then Err (fault.Limit place)
        else and_then (media.address_or_fault place (resolve url text))
        (λ address. media.segment_with s duration address (media.segment_range s address s.range))) ≡ Ok segment
        → IsAddress segment.address × (segment.map ≡ s.map)
    go true h = absurd (cc)
    go false h =
        let one = steps_of (media.address_or_fault place (resolve url text)) _ segment h in
        let two = steps_of (media.segment_range s one.value s.range) _ segment one.then in
        let same : record { address = one.value; range = two.value; map = s.map; duration = duration; section = media.section_of s }
        ≡ segment =
        (let i = two.then in cc) in (
          subst (λ (x : MediaSegment). IsAddress x.address) same
              (resolved_is_address url text one.value bytes (all_bytes text of_bytes)
              (resolved place (resolve url text) one.value one.first)),
          sym (ap (λ (x : MediaSegment). x.map) same),
        )

  lasting_located : (s : State) (text : List ℕ) (place : Place) (duration : Option ℕ) (segment : MediaSegment) → AreBytes text
      → segment_lasting url s text place duration ≡ Ok segment → IsAddress segment.address × (segment.map ≡ s.map)
  lasting_located s text place None segment of_bytes is = absurd (cc)
  lasting_located s text place (Some duration) segment of_bytes is = at_located s text place duration segment of_bytes is

  -- what is so after some lines
  record IsLocated (s : State) : Type 0 where
    segments : All HasAddresses s.segments
    map : IfSome s.map (λ (part : Part). IsAddress part.address)

  same_state : (s t : State) → t.segments ≡ s.segments → t.map ≡ s.map → IsLocated s → IsLocated t
  same_state s t segments map is = record {
    segments = subst (All HasAddresses) (sym segments) is.segments;
    map = subst (λ m. IfSome m (λ (part : Part). IsAddress part.address)) (sym map) is.map;
  }

  no_fault : {A : Type 0} (r : Result A MediaFault) → fault_in r ≡ None → (a : A) × (r ≡ Ok a)
  no_fault (Ok a) is = (a, refl)
  no_fault (Err f) is = absurd (cc)

  by_map : (s : State) (rest : List ℕ) (place : Place) → AreBytes rest → fault_in (map_of url rest place) ≡ None → IsLocated s
      → IsLocated (record s { map = Some (map_value url rest) })
  by_map s rest place of_bytes is located =
      let one = no_fault (map_of url rest place) is in
      let address = map_located rest place one.0 of_bytes one.1 in
      record {
        segments = located.segments;
        map = subst (λ (part : Part). IsAddress part.address)
            (sym (map_told url rest place one.0 one.1)) address;
      }

  -- only a map changes what counts
  by_tag : (s : State) (name rest : List ℕ) (place : Place) (follows : Bool) → AreBytes rest → IsLocated s
      → media.tag_fault url s (tag_of name) rest place follows ≡ None → IsLocated (media.after_tag url s (tag_of name) rest place)
  unfolding tag_of
  by_tag s name rest place follows of_bytes located =
      (elim (cases_Bool (bytes_eq name (codes "EXTINF"))) [
        | inl is ↦ rw is
            (λ none. record { segments = located.segments; map = located.map })
        | inr not ↦ rw not
            (elim (cases_Bool (bytes_eq name (codes "EXT-X-BYTERANGE"))) [
              | inl is ↦ rw is
                  (λ none. record { segments = located.segments; map = located.map })
              | inr not ↦ rw not
                  (elim (cases_Bool (bytes_eq name (codes "EXT-X-DISCONTINUITY"))) [
                    | inl is ↦ rw is
                        (λ none. record { segments = located.segments; map = located.map })
                    | inr not ↦ rw not
                        (elim (cases_Bool (bytes_eq name (codes "EXT-X-MAP"))) [
                          | inl is ↦ rw is (λ none. by_map s rest place of_bytes none located)
                          | inr not ↦ rw not
                              (elim (cases_Bool (bytes_eq name (codes "EXT-X-KEY"))) [
                                | inl is ↦ rw is
                                    (λ none. record { segments = located.segments; map = located.map })
                                | inr not ↦ rw not
                                    (elim (cases_Bool (bytes_eq name (codes "EXT-X-TARGETDURATION"))) [
                                      | inl is ↦ rw is
                                          (λ none. record { segments = located.segments; map = located.map })
                                      | inr not ↦ rw not
                                          (elim (cases_Bool (bytes_eq name (codes "EXT-X-MEDIA-SEQUENCE"))) [
                                            | inl is ↦ rw is
                                                (λ none. record { segments = located.segments; map = located.map })
                                            | inr not ↦ rw not
                                                (elim (cases_Bool (bytes_eq name (codes "EXT-X-DISCONTINUITY-SEQUENCE"))) [
                                                  | inl is ↦ rw is
                                                      (λ none. record { segments = located.segments; map = located.map })
                                                  | inr not ↦ rw not
                                                      (elim (cases_Bool (bytes_eq name (codes "EXT-X-ENDLIST"))) [
                                                        | inl is ↦ rw is
                                                            (λ none. record { segments = located.segments; map = located.map })
                                                        | inr not ↦ rw not
                                                            (elim (cases_Bool (bytes_eq name (codes "EXT-X-SESSION-KEY"))) [
                                                              | inl is ↦ rw is
                                                                  (λ none. record { segments = located.segments; map = located.map })
                                                              | inr not ↦ rw not
                                                                  (elim (cases_Bool (bytes_eq name (codes "EXT-X-DATERANGE"))) [
                                                                    | inl is ↦ rw is
                                                                        (λ none. record { segments = located.segments; map = located.map })
                                                                    | inr not ↦ rw not
                                                                        (elim (cases_Bool (bytes_eq name (codes "EXT-X-PART")
                                                                        || bytes_eq name (codes "EXT-X-PART-INF") || bytes_eq name
                                                                        (codes "EXT-X-PRELOAD-HINT") || bytes_eq name
                                                                        (codes "EXT-X-SKIP"))) [
                                                                          | inl is ↦ rw is
                                                                              (λ none. record {
                                                                                segments = located.segments;
                                                                                map = located.map;
                                                                              })
                                                                          | inr not ↦ rw not
                                                                              (elim (cases_Bool (bytes_eq name (codes "EXT-X-GAP")
                                                                              || bytes_eq name (codes "EXT-X-DEFINE") || bytes_eq name
                                                                              (codes "EXT-X-I-FRAMES-ONLY"))) [
                                                                                | inl is ↦ rw is (λ none. record {
                                                                                  segments =
                                                                                      located.segments;
                                                                                  map = located.map;
                                                                                })
                                                                                | inr not ↦ rw not
                                                                                    (elim (cases_Bool
                                                                                    (bytes_eq name (codes "EXT-X-STREAM-INF")
                                                                                    || bytes_eq name (codes "EXT-X-MEDIA") || bytes_eq
                                                                                    name
                                                                                    (codes "EXT-X-I-FRAME-STREAM-INF"))) [
                                                                                      | inl is ↦ rw is (λ none. record {
                                                                                        segments =
                                                                                            located.segments;
                                                                                        map = located.map;
                                                                                      })
                                                                                      | inr not ↦ rw not
                                                                                          (λ none. record {
                                                                                            segments = located.segments;
                                                                                            map = located.map;
                                                                                          })
                                                                                    ])
                                                                              ])
                                                                        ])
                                                                  ])
                                                            ])
                                                      ])
                                                ])
                                          ])
                                    ])
                              ])
                        ])
                  ])
            ])
      ])

  by_uri : (s : State) (text : List ℕ) (place : Place) → AreBytes text → fault_in (segment_of url s text place) ≡ None → IsLocated s
      → IsLocated (media.after_uri url s text)
  unfolding segment_of
  by_uri s text place of_bytes is located =
      let one = no_fault (segment_of url s text place) is in
      let at = lasting_located s text place s.duration one.0 of_bytes one.1 in
      let told = segment_told url s text place one.0 one.1 in
      let has : HasAddresses one.0 = record {
        own = at.0;
        initialization = subst (λ m. IfSome m (λ (part : Part). IsAddress part.address)) (sym at.1) located.map;
      } in
      record {
        segments = All-append HasAddresses s.segments (segment_value url s text ∷ []) located.segments
            (All-cons HasAddresses (segment_value url s text) [] (subst HasAddresses (sym told) has) (All-nil HasAddresses));
        map = located.map;
      }

  by_line : (s : State) (line : PlaylistLine) (follows : Bool) → IsOfBytes line → line_fault url s line follows ≡ None → IsLocated s
      → IsLocated (after url s line)
  by_line s (tag name rest place) follows of_bytes is located = by_tag s name rest place follows of_bytes located is
  by_line s (uri text place) follows of_bytes is located = by_uri s text place of_bytes is located

  faultless : (o : Option MediaFault) (others : List MediaFault) → with_fault o others ≡ [] → (o ≡ None) × (others ≡ [])
  faultless None others is = (refl, is)
  faultless (Some f) others is = absurd (cc)

  by_lines : (s : State) (lines : List PlaylistLine) → line_faults url s lines ≡ [] → All IsOfBytes lines → IsLocated s
      → IsLocated (after_all url s lines)
  by_lines s [] is of_bytes located = located
  by_lines s (line ∷ lines) is of_bytes located =
      let parts = faultless (line_fault url s line (list_any is_uri lines)) (line_faults url (after url s line) lines) is in
      by_lines (after url s line) lines parts.1 (All-tail IsOfBytes line lines of_bytes)
      (by_line s line (list_any is_uri lines) (All-head IsOfBytes line lines of_bytes) parts.0 located)

lined : (r : Result (List PlaylistLine) LineFault) (lines : List PlaylistLine) → media.lines_or_fault r ≡ Ok lines → r ≡ Ok lines
lined (Ok found) lines is = (let same : found ≡ lines = cc in ap Ok same)
lined (Err f) lines is = absurd (cc)

pub read_have_addresses : ReadHaveAddresses
unfolding media_values
read_have_addresses bytes url m of_url is =
    let read = read_lines_ok bytes url m is in
    let lines = read.0 in
    let told = media_in-ok (place_of bytes (length bytes)) url lines m read.1.1 in
    let of_bytes = lines_are_bytes bytes lines (lined (lines_of bytes) lines read.1.0) in
    subst HaveAddresses told.1 (by_lines url of_url nothing lines told.0 of_bytes
    (record { segments = All-nil HasAddresses; map = tt })).segments
