-- A loop over the parts of a text stays within the source, at the bounds of characters.
use Rattle.std.proofs.Common.{◌≡◌, ℕ, ◌+◌, ◌-◌, ◌<◌, IsTrue, Bool, true, false, eqb, List, [], ◌∷◌, ◌++◌, length, take, drop, encode_utf8}
use Rattle.std.proofs.{Common.{Result, Ok, IfOk, refl, Option, Some, None, sym, ap, ◌∙◌, subst, arith}, lemmas.Bool.eqb-true}
use Rattle.std.proofs.lemmas.List.{take-append-drop, length-append, append-nil}
use Rattle.std.specs.{List.slice_range, Str.IsCharBoundary}
use Rattle.mpd_tree.specs.{declared.stop.Fault.Fault, References.{referred_to, is_semicolon, character_or, named_in, entity, reference_at}}
use Rattle.mpd_tree.specs.{Grammar.{reference, marked, part}, Runs.{up_to, plain_at, after_line_feed}}
use Rattle.mpd_text.specs.Rests.{IsAt, IsBehind, IsEnd}
use Rattle.mpd_text.proofs.KeptRows.{cut_shown}
use Rattle.mpd_text.proofs.Rests.{BeginsAscii, behind, cut_before, either, ends, ends_drop, ends_tail, ends_within, then_so}
use Rattle.mpd_tree.proofs.Cuts.{Stops, run_stops}
use Rattle.byte_scan.specs.ByteSet.{is_member, all_ascii}

member_ascii : (members : List ℕ) (b : ℕ) → IsTrue (all_ascii members) → is_member members b ≡ true → b < 128
member_ascii [] b all e = cc
member_ascii (m ∷ ms) b all e = grind (arith, member_ascii ms b)

begins_ascii : (marks bytes : List ℕ) → IsTrue (all_ascii marks) → Stops (is_member marks) bytes → BeginsAscii bytes
begins_ascii marks [] all s = tt
begins_ascii marks (b ∷ bs) all s = member_ascii marks b all s

-- what stands from the next marked byte on
pub marked_ascii : (marks bytes : List ℕ) → IsTrue (all_ascii marks) → BeginsAscii (plain_at marks bytes).1
marked_ascii marks bytes all = begins_ascii marks (plain_at marks bytes).1 all (run_stops (is_member marks) bytes)

pub plain_parts : (marks bytes : List ℕ) → bytes ≡ (plain_at marks bytes).0 ++ (plain_at marks bytes).1
plain_parts marks bytes = sym (take-append-drop _ bytes)

-- what is left behind a marked byte
abbrev pub Leaves : ℕ → List ℕ → List ℕ × Bool × List ℕ → Type 0
Leaves stop s (read, true, rest) = IsAt stop s rest
Leaves stop s (read, false, rest) = IsBehind s rest

character_rest : (otherwise : Fault) (s rest : List ℕ) (o : Option ℕ) → IsBehind s rest
    → IfOk (character_or otherwise rest o) (λ (x : ℕ × List ℕ). IsBehind s x.1)
character_rest otherwise s rest None r = tt
character_rest otherwise s rest (Some c) r = r

named_rest : (otherwise : Fault) (name s rest : List ℕ) → Stops is_semicolon rest → IsEnd s rest
    → IfOk (named_in otherwise name rest) (λ (x : ℕ × List ℕ). IsBehind s x.1)
named_rest otherwise name s [] h e = tt
named_rest otherwise name s (b ∷ bs) h e =
    character_rest otherwise s bs (referred_to name) (behind s b bs (omega (arith, eqb-true b 59 h)) e)

reference_rest : (left : ℕ) (s bytes : List ℕ) → IsEnd s bytes → IfOk (reference left bytes).read (λ (x : ℕ × List ℕ). IsBehind s x.1)
unfolding reference reference_at
reference_rest left s bytes e = named_rest (entity left bytes) (take (up_to is_semicolon bytes) bytes) s (drop (up_to is_semicolon bytes)
    bytes) (run_stops is_semicolon bytes)
    (ends_drop _ s bytes e)

feed_rest : (s bytes : List ℕ) → IsBehind s bytes → IsBehind s (after_line_feed bytes)
feed_rest s [] r = r
feed_rest s (b ∷ bs) r = either (IsBehind s) (eqb b 10) (λ t. behind s b bs (omega (arith, eqb-true b 10 t)) (ends s (b ∷ bs) r)) (λ f. r)

pub marked_rest : (stop : ℕ) (read s bytes : List ℕ) → IsEnd s bytes → BeginsAscii bytes
    → IfOk (marked stop read bytes).read (Leaves stop s)
unfolding marked
marked_rest stop read s [] e a = tt
marked_rest stop read s (b ∷ bs) e a =
    let P = λ (r : Result (List ℕ × Bool × List ℕ) Fault). IfOk r (Leaves stop s) in
    either P (eqb b stop) (λ t. record {
      front = e.front;
      more = bs;
      bytes_are = ap (λ n. n ∷ bs) (eqb-true b stop t);
      whole_is = e.whole_is;
    })
    (λ f. either P (eqb b 38)
    (λ t. then_so (λ (x : ℕ × List ℕ). IsBehind s x.1) (Leaves stop s) (reference (length (b ∷ bs)) bs).read
    (λ x. Ok (read ++ encode_utf8 x.0, false, x.1))
    (reference_rest (length (b ∷ bs)) s bs (ends_tail s b bs e)) (λ x r. r))
    (λ g. either P (eqb b 13) (λ t. feed_rest s bs (behind s b bs a e))
    (λ h. either P (eqb b 60) (λ t. tt) (λ k. behind s b bs a e))))

pub part_rest : (marks : List ℕ) (stop : ℕ) (read s bytes : List ℕ) (x : List ℕ × Bool × List ℕ) → IsEnd s bytes → IsTrue (all_ascii marks)
    → (marked stop read (plain_at marks bytes).1).read ≡ Ok x → Leaves stop s x
part_rest marks stop read s bytes x e all is = subst (λ (r : Result (List ℕ × Bool × List ℕ) Fault). IfOk r (Leaves stop s)) is
    (marked_rest stop read s (plain_at marks bytes).1 (ends_drop _ s bytes e) (marked_ascii marks bytes all))

-- what is cut out of the source is what stands before the marked byte
pub part_cut : (s bytes plain marks : List ℕ) → IsEnd s bytes → IsTrue (all_ascii marks) → plain ≡ (plain_at marks bytes).0
    → IsCharBoundary s (length s - length bytes + length plain)
    × (slice_range s (length s - length bytes) (length s - length bytes + length plain) ≡ plain)
part_cut s bytes plain marks e all is =
    let rest : List ℕ = (plain_at marks bytes).1 in
    let parts : bytes ≡ plain ++ rest = plain_parts marks bytes ∙ ap (λ (t : List ℕ). t ++ rest) (sym is) in
    let lengths : length bytes ≡ length plain + length rest = ap length parts ∙ length-append plain rest in
    let within = ends_within s bytes e in (
      subst (IsCharBoundary s) (omega arith) (cut_before s rest (ends_drop _ s bytes e) (marked_ascii marks bytes all)),
      rw append-nil at (cut_shown s [] bytes plain rest (length s - length bytes) (length s - length bytes + length plain) e parts refl
          (omega arith)),
    )

-- the part at the front, as it is read
pub part_is : (stop : ℕ) (s bytes plain rest marks read now cut : List ℕ) → IsBehind s bytes → IsTrue (all_ascii marks)
    → plain ≡ (plain_at marks bytes).0 → rest ≡ (plain_at marks bytes).1
    → cut ≡ slice_range s (length s - length bytes) (length s - length bytes + length plain) → now ≡ read ++ cut
    → (marked stop now rest).read ≡ (part marks stop read bytes).read
part_is stop s bytes plain rest marks read now cut r all front back is so =
    rw (so, is, (part_cut s bytes plain marks (ends s bytes r) all front).1, front, back) refl
