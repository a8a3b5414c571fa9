-- How content goes on, step by step.
use Rattle.mpd_tree.specs.Grammar as grammar
use Rattle.std.proofs.Common.{◌≡◌, ℕ, suc, ◌+◌, ◌-◌, List, [], ◌∷◌, ◌++◌, length, take, drop, IfSome, Result, Ok, Err, refl, sym, ap, ◌∙◌}
use Rattle.std.proofs.{Common.{arith, append_assoc}, lemmas.List.{length-append, append-nil}}
use Rattle.mpd_text.specs.{declared.kept.Kept.Kept, Keeping.{content_step, element_at, shown_in}, Rests.IsBehind}
use Rattle.mpd_tree.specs.{declared.stop.Stop.Stop, declared.stop.Fault.Fault, Forests.{Shown, flat}, Marked.marked_in_content}
use Rattle.mpd_tree.specs.{Runs.plain_at, Reading.fault_in, Pieces.{Piece, Inside, ended, followed_by}}
use Rattle.mpd_tree.specs.{Productions.{◌>>=◌, Production, further, times}, Trees.{Forest, Head, nothing, element}}
use Rattle.mpd_tree.specs.Grammar.{text as text_of, marked, tag, end_tag, piece, added, next_inside, inside}
use Rattle.mpd_text.proofs.{Flat.joined, Loop.failed, Rests.tail_is}

-- with so many steps left
pub record IsSoFar (room : ℕ) (name bytes : List ℕ) (old new : Kept) (text : List ℕ) (n : ℕ) (rest : List ℕ) : Type 0 where
  pub children : Forest
  pub same : new.source.now ≡ old.source.now
  pub shown_are : shown_in new ≡ shown_in old ++ flat (length (shown_in old)) children
  pub left : IsBehind old.source.now rest
  pub so_far : (times (next_inside (inside room old.source.now) old.source.now room name) n (record { children = children; text = text })
      rest).read ≡ (inside (suc room) old.source.now name bytes).read

-- ---- one step

module _ (room : ℕ) (whole name : List ℕ) (children : Forest) (text bytes : List ℕ) {marks : List ℕ} (m : marks ≡ marked_in_content) where
  pub text_failed : (e : Stop) → IfSome (fault_in e) (λ f. (text_of text marks 60 bytes).read ≡ Err f)
      → IfSome (fault_in e) (λ f. (content_step room whole name children text bytes).read ≡ Err f)
  unfolding next_inside
  text_failed e h = failed e (text_of text marked_in_content 60 bytes).read _ (content_step room whole name children text bytes).read
      (rw m at h) refl

  module _ {t markup : List ℕ} (is : (text_of text marks 60 bytes).read ≡ Ok (t, markup)) where
    step_is : ((piece whole room name (length markup) (take (length markup - 1) (drop 1 markup))).read
        >>= λ x. (added (inside room whole) (record { children = children; text = t }) x).read)
        ≡ (content_step room whole name children text bytes).read
    unfolding next_inside
    step_is = let e = rw m at is in rw (e, tail_is markup) refl

    pub piece_failed : (e : Stop)
        → IfSome (fault_in e) (λ f. (piece whole room name (length markup) (take (length markup - 1) (drop 1 markup))).read ≡ Err f)
        → IfSome (fault_in e) (λ f. (content_step room whole name children text bytes).read ≡ Err f)
    piece_failed e h = failed e (piece whole room name (length markup) (take (length markup - 1) (drop 1 markup))).read _ _ h step_is

    pub piece_read : {p : Piece} {rest : List ℕ}
        → (piece whole room name (length markup) (take (length markup - 1) (drop 1 markup))).read ≡ Ok (p, rest)
        → (content_step room whole name children text bytes).read
        ≡ (added (inside room whole) (record { children = children; text = t }) (p, rest)).read
    piece_read h = sym step_is ∙ rw h refl

-- ---- text alone

end_read : (r : Result (List ℕ) Fault) (inner : List ℕ → List ℕ → Production (Inside × List ℕ))
    (more : Inside → List ℕ → Production (Inside × List ℕ)) (before : Inside) → (r >>= λ rest. Ok (before, rest))
    ≡ (((r >>= λ rest. Ok (ended, rest)) >>= λ x. (added inner before x).read) >>= λ x. (further more x).read)
end_read (Ok rest) inner more before = refl
end_read (Err f) inner more before = refl

pub leaf_is : (room : ℕ) (whole name bytes markup more : List ℕ) → markup ≡ (plain_at marked_in_content bytes).1 → markup ≡ 60 ∷ 47 ∷ more
    → ((end_tag name (length markup) more).read
    >>= λ rest. Ok (record { children = nothing; text = (plain_at marked_in_content bytes).0 }, rest))
    ≡ (inside (suc room) whole name bytes).read
unfolding inside times next_inside marked piece
leaf_is room whole name bytes markup more plain is =
    let most : length bytes + 1 ≡ suc (length bytes) = omega arith in
    let here : (plain_at marked_in_content bytes).1 ≡ 60 ∷ 47 ∷ more = sym plain ∙ is in
    rw (is, most, most, here) (end_read (end_tag name (length (60 ∷ 47 ∷ more)) more).read (inside room whole)
    (times (next_inside (inside room whole) whole room name) (length bytes))
    (record { children = nothing; text = (plain_at marked_in_content bytes).0 }))

-- ---- elements inside

-- content inside is read with less room
abbrev pub InsideReading : Type 0
InsideReading = Result (Inside × List ℕ) Fault

pub inside_read : (room less : ℕ) (whole other name named bytes : List ℕ) (P : InsideReading → Type 0) → suc less ≡ room
    → other ≡ whole → named ≡ name → P (inside (suc less) other named bytes).read → P (inside room whole name bytes).read
inside_read room less whole other name named bytes P e w n h = rw (← e, ← w, ← n) h

pub element_is : (whole : List ℕ) (left : ℕ) (bytes : List ℕ) {x : Piece × List ℕ} → (tag whole left bytes).read ≡ Ok x
    → (grammar.element whole x).read ≡ (element_at whole left bytes).read
element_is whole left bytes h = rw h refl

-- ---- rows that came

pub filled : (old mid new before : List Shown) (s : Shown) (at : ℕ) (children : Forest) (text : List ℕ) → old ≡ before ++ s ∷ []
    → length before ≡ at → mid ≡ old ++ flat (length old) children
    → new ≡ before ++ record { head = record s.head { text = text }; next = length mid } ∷ flat (length old) children
    → new ≡ before ++ flat at (element (record s.head { text = text }) children nothing)
filled old mid new before s at children text is len mid_is new_is =
    let count : length old ≡ suc at = omega (arith, ap length is, length-append before (s ∷ []), len) in
    let inner = flat (suc at) children in
    let inner_is : flat (length old) children ≡ inner = ap (λ n. flat n children) count in
    let next : length mid ≡ suc at + length inner = omega (
      arith,
      ap length mid_is,
      length-append old (flat (length old) children),
      count,
      ap length inner_is,
    ) in
    new_is ∙ rw (inner_is, next, append-nil inner) refl

pub child_added : (old new front : List Shown) (children inner : Forest) (h : Head) (at : ℕ) → at ≡ length old
    → old ≡ front ++ flat (length front) children → new ≡ old ++ flat at (element h inner nothing)
    → new ≡ front ++ flat (length front) (followed_by children (element h inner nothing))
child_added old new front children inner h at len is new_is =
    let before = flat (length front) children in
    let count : at ≡ length front + length before = omega (arith, len, ap length is, length-append front before) in
    new_is ∙ ap (λ l. l ++ flat at (element h inner nothing)) is ∙ append_assoc front before (flat at (element h inner nothing))
    ∙ ap (λ n. front ++ (before ++ flat n (element h inner nothing))) count
    ∙ ap (λ l. front ++ l) (sym (joined children (element h inner nothing) (length front)))

pub empty_added : (old new front : List Shown) (children : Forest) (h : Head) → old ≡ front ++ flat (length front) children
    → new ≡ old ++ record { head = h; next = suc (length old) } ∷ []
    → new ≡ front ++ flat (length front) (followed_by children (element h nothing nothing))
empty_added old new front children h is new_is =
    let next : suc (length old) ≡ suc (length old) + 0 = omega arith in
    child_added old new front children nothing h (length old) refl is (new_is ∙ ap (λ n. old ++ record { head = h; next = n } ∷ []) next)
