-- Each text has one reading: the tree that it spells, or the fault at which reading stops.
use Rattle.std.proofs.Common.{◌≡◌, ◌≢◌, ℕ, suc, true, false, eqb, List, length, Option, Some, None, Result, Ok, Err, refl, sym, ap, ◌∙◌}
use Rattle.std.proofs.{Common.{inl, inr, arith, IsUtf8}, lemmas.Bool.cases_Bool, lemmas.Str.{IsUtf8-from_is_utf8, is_utf8-from_IsUtf8}}
use Rattle.std.specs.{Str.is_utf8, Str.Lossy.utf8_valid_len}
use Rattle.bridge_io.specs.{declared.place.Place.Place, Places.place_of}
use Rattle.mpd_tree.specs.{declared.fault.TextFault.TextFault, declared.fault.TextFault.TheVariants.{NotUtf8, BadChar, Memory}}
use Rattle.mpd_tree.specs.{declared.stop.Fault.Fault, declared.stop.Wrong.Wrong, declared.stop.Wrong.TheVariants.Syntax}
use Rattle.mpd_tree.specs.{Characters.first_bad_character, Trees.Element, Grammar.{IsClean, document}, Positions.fault_at}
use Rattle.mpd_tree.specs.{Faults.{named_fault, placed, IsRefused, ReadsAs}, Meaning.{told, read_unless_bad, reading_of, IsOneReading}}
use Rattle.mpd_tree.proofs.{Produced.{IsReading, decided_at}, Around.document_read}

none_is_some : {A : Type 0} (x : A) → ◌≡◌ {A = Option A} None (Some x) → ⊥
none_is_some x e = cc

-- ---- texts without bad bytes

abbrev IsDocumentRead : List ℕ → Result Element Fault → Type 0
IsDocumentRead bytes r = IsReading (λ _. 0) (document bytes) (suc (length bytes)) r

clean_reads : (bytes : List ℕ) → IsClean bytes → (r : Result Element Fault) → IsDocumentRead bytes r → ReadsAs bytes (told bytes r)
clean_reads bytes clean (Ok root) h = record { clean = clean; document = h.reads }
clean_reads bytes clean (Err f) h =
    let p = h.reads.0 in
    let is : f ≡ fault_at p = h.reads.2 in
    inr (inr (
      clean,
      record {
        at = p;
        is_longest = record {
          is_open = h.reads.1;
          longest = λ other open_there. elim (h.meets other open_there) [
            | inl less ↦ omega (arith, less, decided_at p, ap (λ (g : Fault). g.decided) is)
            | inr e ↦ let same : f ≡ fault_at other = grind arith in
                omega (arith, decided_at p, decided_at other, ap (λ (g : Fault). g.decided) is, ap (λ (g : Fault). g.decided) same)
          ];
        };
        is_no_text = λ root d. let never : Err f ≡ Ok root = h.again root d in absurd cc;
        fault_is = ap (placed bytes) is;
      },
    ))

refused_once : (bytes : List ℕ) (g : TextFault) (r : Result Element Fault) → IsDocumentRead bytes r → (d : IsRefused bytes g)
    → ◌≡◌ {A = Result Element TextFault} (Err g) (told bytes r)
refused_once bytes g (Ok root) h d = absurd (d.is_no_text root h.reads)
refused_once bytes g (Err f) h d =
    let p = h.reads.0 in
    let is : f ≡ fault_at p = h.reads.2 in
    elim (h.meets d.at d.is_longest.is_open) [
      | inl less ↦ absurd (omega (arith, less, d.is_longest.longest p h.reads.1, decided_at p, ap (λ (k : Fault). k.decided) is))
      | inr e ↦ let same : f ≡ fault_at d.at = grind arith in ap Err (d.fault_is ∙ ap (placed bytes) (sym same))
    ]

clean_once : (bytes : List ℕ) (o : Result Element TextFault) → IsClean bytes → ReadsAs bytes o → o ≡ told bytes (document bytes).read
clean_once bytes (Ok root) clean s = ap (told bytes) (sym ((document_read bytes).again root s.document))
clean_once bytes (Err g) clean (inl h) = absurd (h.not_utf8 clean.utf8)
clean_once bytes (Err g) clean (inr (inl h)) = absurd (none_is_some h.at (sym clean.no_bad_character ∙ h.is_first))
clean_once bytes (Err g) clean (inr (inr d)) = refused_once bytes g (document bytes).read (document_read bytes) d.1

-- ---- all texts

bad_once : (bytes : List ℕ) (at : ℕ) (o : Result Element TextFault) → IsUtf8 bytes → first_bad_character bytes ≡ Some at → ReadsAs bytes o
    → o ≡ Err (BadChar (place_of bytes at))
bad_once bytes at (Ok root) utf8 e s = absurd (none_is_some at (sym s.clean.no_bad_character ∙ e))
bad_once bytes at (Err g) utf8 e (inl h) = absurd (h.not_utf8 utf8)
bad_once bytes at (Err g) utf8 e (inr (inl h)) =
    let same : h.at ≡ at = let some : Some h.at ≡ Some at = sym h.is_first ∙ e in cc in
    ap Err (h.fault_is ∙ ap (λ (n : ℕ). BadChar (place_of bytes n)) same)
bad_once bytes at (Err g) utf8 e (inr (inr h)) = absurd (none_is_some at (sym h.0.no_bad_character ∙ e))

utf8_once : (bytes : List ℕ) → IsUtf8 bytes → (o : Option ℕ) → first_bad_character bytes ≡ o → IsOneReading bytes (read_unless_bad bytes o)
utf8_once bytes utf8 None e =
    let clean : IsClean bytes = record { utf8 = utf8; no_bad_character = e } in
    record {
      is_read = clean_reads bytes clean (document bytes).read (document_read bytes);
      only = λ other s. clean_once bytes other clean s;
    }
utf8_once bytes utf8 (Some at) e = record {
  is_read = inr (inl (record { utf8 = utf8; at = at; is_first = e; fault_is = refl }));
  only = λ other s. bad_once bytes at other utf8 e s;
}

pub one_reading : (bytes : List ℕ) → IsOneReading bytes (reading_of bytes)
unfolding reading_of
one_reading bytes = elim (cases_Bool (is_utf8 bytes)) [
  | inl t ↦ rw t (utf8_once bytes (IsUtf8-from_is_utf8 bytes t) (first_bad_character bytes) refl)
  | inr f ↦
      let broken : IsUtf8 bytes → ⊥ = λ u. let never : true ≡ false = sym (is_utf8-from_IsUtf8 bytes u) ∙ f in cc in
      rw f (record { is_read = inl (record { not_utf8 = broken; fault_is = refl }); only = λ other s. by_other broken other s })
]
  where
    by_other : (IsUtf8 bytes → ⊥) → (o : Result Element TextFault) → ReadsAs bytes o
        → o ≡ Err (NotUtf8 (place_of bytes (utf8_valid_len bytes)))
    by_other broken (Ok root) s = absurd (broken s.clean.utf8)
    by_other broken (Err g) (inl h) = ap Err h.fault_is
    by_other broken (Err g) (inr (inl h)) = absurd (broken h.utf8)
    by_other broken (Err g) (inr (inr h)) = absurd (broken h.0.utf8)

-- ---- want of memory is no text's fault

named_apart : (wrong : Wrong) (place : Place) → named_fault wrong place ≢ Memory
named_apart Syntax place e = cc
named_apart wrong place e = cc

pub no_memory : (bytes : List ℕ) → reading_of bytes ≢ Err Memory
unfolding reading_of
no_memory bytes = elim (cases_Bool (is_utf8 bytes)) [ inl t ↦ rw t (by_bad (first_bad_character bytes)) | inr f ↦ rw f (λ e. cc) ]
  where
    placed_apart : (f : Fault) → placed bytes f ≢ Memory
    placed_apart f = elim (cases_Bool (eqb f.decided 0)) [ inl t ↦ rw t (λ e. cc) | inr g ↦ rw g (named_apart f.wrong _) ]

    by_bad : (o : Option ℕ) → read_unless_bad bytes o ≢ Err Memory
    by_bad None = by_result (document bytes).read
      where
        by_result : (r : Result Element Fault) → told bytes r ≢ Err Memory
        by_result (Ok root) e = cc
        by_result (Err f) e = placed_apart f cc
    by_bad (Some at) = λ e. cc
