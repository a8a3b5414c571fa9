-- Texts that are added one after another.
use Rattle.std.proofs.Common.{◌≡◌, ℕ, ◌+◌, ◌<◌, List, [], ◌∷◌, ◌++◌, length, take, drop, get_or, flat_map, Result, Ok, Err, IsErrAnd, refl}
use Rattle.std.proofs.{Common.{sym, ap, subst, ◌∙◌, inl, inr, arith, append_assoc}, lemmas.List.{append-nil, take_more, take-append-drop}}
use Rattle.std.proofs.{lemmas.List.Concat.flat_map-append, lemmas.Result.{on_ok_weaker, on_err_weaker, err_from_is_err_and}}
use Rattle.bridge_io.specs.{Written.{target, front_of_behind, front_of_more, front_of_whole}, declared.outside.Store.Ghosts}
use Rattle.bridge_io.specs.{declared.outside.Fail.Fail, declared.outside.Fail.TheVariants.Memory, Adding.Adds, declared.sheet.Sheet.Sheet}

module _ {F : Type 0} {store : Ghosts F} where
  -- the same text
  pub adds_same : {T : Type 0} {text other : List ℕ} {old new : Sheet F} {result : Result T Fail} → text ≡ other
      → Adds store text old new result → Adds store other old new result
  adds_same {old = old} {new = new} {result = result} same one = subst (λ (t : List ℕ). Adds store t old new result) same one

  -- nothing is added
  pub adds_none : (sheet : Sheet F) → Adds {T = Unit {0}} store [] sheet sheet (Ok tt)
  adds_none sheet = record {
    same_writer = refl;
    same_store = refl;
    same_file = refl;
    behind = λ former first behind. rw append-nil behind;
    front = tt;
    cause = record { never_falls = omega arith; rose = λ same. cc };
    reads = refl;
  }

  -- the same, whatever else is answered
  pub adds_answered : {S T : Type 0} {text : List ℕ} {old new : Sheet F} {x : S} (y : T) → Adds store text old new (Ok x)
      → Adds store text old new (Ok y)
  adds_answered y one = record {
    same_writer = one.same_writer;
    same_store = one.same_store;
    same_file = one.same_file;
    behind = one.behind;
    front = tt;
    cause = record { never_falls = one.cause.never_falls; rose = λ same. absurd (cc) };
    reads = one.reads;
  }

  module _ {S T : Type 0} {a : List ℕ} (b : List ℕ) {old mid : Sheet F} where
    -- one text, and then another one
    pub adds_then : {new : Sheet F} {x : S} {result : Result T Fail} → Adds store a old mid (Ok x) → Adds store b mid new result
        → Adds store (a ++ b) old new result
    adds_then {new} {x} {result} one two = record {
      same_writer = two.same_writer ∙ one.same_writer;
      same_store = two.same_store ∙ one.same_store;
      same_file = two.same_file ∙ one.same_file;
      behind = on_ok_weaker result (λ goes former first behind. rw append_assoc at
          (goes (former ++ a) first (one.behind former first behind))) two.behind;
      front = on_err_weaker result (λ stops former first behind. rw (one.same_file, append_assoc) at
          (stops (former ++ a) first (one.behind former first behind))) two.front;
      cause = record {
        never_falls = omega (arith, one.cause.never_falls, two.cause.never_falls);
        rose = λ same. elim (two.cause.rose same) [ inl rises ↦ inl (omega (arith, one.cause.never_falls)) | inr full ↦ inr full ];
      };
      reads = two.reads ∙ one.reads;
    }

    -- the first text fails, so that the second one isn't tried
    pub adds_stop : {fail : Fail} → Adds {T = S} store a old mid (Err fail) → Adds {T = T} store (a ++ b) old mid (Err fail)
    adds_stop {fail} one = record {
      same_writer = one.same_writer;
      same_store = one.same_store;
      same_file = one.same_file;
      behind = tt;
      front = λ former first behind. rw (← append_assoc) (front_of_more (target old.writer.now) (former ++ a) b first _
          (one.front former first behind));
      cause = record { never_falls = one.cause.never_falls; rose = λ same. one.cause.rose cc };
      reads = one.reads;
    }

    -- the same where the failure is handed on
    pub adds_stop_at : {fail : Fail} (result : Result T Fail) → IsErrAnd result (λ e. e ≡ fail) → Adds {T = S} store a old mid (Err fail)
        → Adds {T = T} store (a ++ b) old mid result
    adds_stop_at result handed one = let is = err_from_is_err_and result handed in rw (is.1, is.2) (adds_stop one)

  -- memory is wanting for what follows on a text
  pub adds_wanting : {S T : Type 0} {done : List ℕ} (rest whole : List ℕ) {old mid : Sheet F} {x : S} (result : Result T Fail)
      → done ++ rest ≡ whole → IsErrAnd result (λ e. e ≡ Memory) → Adds store done old mid (Ok x) → Adds {T = T} store whole old mid result
  adds_wanting {T = T} {done = done} rest whole {old = old} {mid = mid} result goes wanting one =
      let is = err_from_is_err_and result wanting in
      let stops : Adds {T = T} store whole old mid (Err Memory) = record {
        same_writer = one.same_writer;
        same_store = one.same_store;
        same_file = one.same_file;
        behind = tt;
        front = λ former first behind. front_of_whole (target old.writer.now) former done rest whole first _ goes
            (rw one.same_file at (front_of_behind mid.writer.now (former ++ done) first _ (one.behind former first behind)));
        cause = record { never_falls = one.cause.never_falls; rose = λ same. absurd (cc) };
        reads = one.reads;
      } in
      rw (is.1, is.2) stops

-- texts of the members of a list
module _ {X : Type 0} (text : X → List ℕ) (xs : List X) (i : ℕ) (d : X) (below : i < length xs) where
  more : flat_map text (take (i + 1) xs) ≡ flat_map text (take i xs) ++ text (get_or xs i d)
  more = ap (flat_map text) (take_more xs i d below) ∙ flat_map-append text (take i xs) (get_or xs i d ∷ [])
      ∙ ap (λ t. flat_map text (take i xs) ++ t) (append-nil (text (get_or xs i d)))

  whole : flat_map text (take (i + 1) xs) ++ flat_map text (drop (i + 1) xs) ≡ flat_map text xs
  whole = sym (flat_map-append text (take (i + 1) xs) (drop (i + 1) xs)) ∙ ap (flat_map text) (take-append-drop (i + 1) xs)

  module _ {S T F : Type 0} {store : Ghosts F} {old mid new : Sheet F} {x : S}
      (one : Adds store (flat_map text (take i xs)) old mid (Ok x)) where
    -- a further member is added
    pub adds_more : {y : T} → Adds store (text (get_or xs i d)) mid new (Ok y)
        → Adds store (flat_map text (take (i + 1) xs)) old new (Ok y)
    adds_more two = rw more (adds_then _ one two)

    -- a further member fails
    pub adds_until : {fail : Fail} (result : Result T Fail) → IsErrAnd result (λ e. e ≡ fail)
        → Adds {T = T} store (text (get_or xs i d)) mid new (Err fail) → Adds store (flat_map text xs) old new result
    adds_until result handed two = rw (← whole, more) (adds_stop_at _ result handed (adds_then _ one two))
