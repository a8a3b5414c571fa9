-- Files by their places, and what was begun of more of them.
use Rattle.std.proofs.Common.{◌≡◌, ◌+◌, ◌<◌, ◌≤◌, ℕ, zero, suc, List, [], ◌∷◌, ◌++◌, map, take, length, slice_get, Option, Some, option_map}
use Rattle.std.proofs.{Common.{Result, Ok, Err, OnOk, OnErr, refl, sym, ap, ◌∙◌, subst, arith}, Math.Seq.take-append_seam}
use Rattle.std.proofs.{lemmas.List.{take-append-le, take_all, length-append}, lemmas.List.FromFn.length-map-range_with_len}
use Rattle.std.proofs.{lemmas.List.FromFn.get_or-map-range_with_len, lemmas.Option.{slice_get-get_or, slice_get_within}}
use Rattle.std.specs.List.{range_with_len}
use Rattle.bridge_io.specs.{Outside.{Files, put, Changes}, InOrder.{put_all, MayBegin, AreBegun, put_next, begun_at}}

module _ (f : ℕ → List ℕ × List ℕ) (n t : ℕ) where
  -- the file of a track stands at the track's place
  pub track_at : t < n → slice_get (map f (range_with_len 0 n)) t ≡ Some (f t)
  track_at within =
      let inside : t < length (map f (range_with_len 0 n)) = omega (arith, length-map-range_with_len f 0 n) in
      let here : 0 + t ≡ t = omega arith in
      slice_get-get_or (map f (range_with_len 0 n)) t (f 0) inside ∙ ap Some (get_or-map-range_with_len f 0 n t t (f 0) within here)

  -- all of them are as many as there are tracks
  pub all_tracks : n ≤ t → take t (map f (range_with_len 0 n)) ≡ map f (range_with_len 0 n)
  all_tracks past = take_all t (map f (range_with_len 0 n)) (omega (arith, length-map-range_with_len f 0 n))

module _ {X : Type 0} where
  pub at_front : (xs ys : List X) (k : ℕ) (x : X) → slice_get xs k ≡ Some x → slice_get (xs ++ ys) k ≡ Some x
  at_front [] ys k x is = absurd (cc)
  at_front (y ∷ xs) ys zero x is = is
  at_front (y ∷ xs) ys (suc k) x is = at_front xs ys k x is

  pub at_seam : (xs : List X) (x : X) → slice_get (xs ++ x ∷ []) (length xs) ≡ Some x
  at_seam [] x = refl
  at_seam (y ∷ xs) x = at_seam xs x

-- of more files as many were begun
pub begun_more : (fs gs : List (List ℕ × List ℕ)) (before after : Option Files) → AreBegun fs before after
    → AreBegun (fs ++ gs) before after
begun_more fs gs before after begun = record {
  count = begun.count;
  file = begun.file;
  next = at_front fs gs begun.count begun.file begun.next;
  begun = let within = slice_get_within fs begun.count begun.file begun.next in
      let same : take begun.count (fs ++ gs) ≡ take begun.count fs = take-append-le begun.count fs gs (omega (arith, within)) in
      subst (λ taken. MayBegin begun.file (option_map (put_all taken) before) after) (sym same) begun.begun;
}

module _ (fs : List (List ℕ × List ℕ)) (file : List ℕ × List ℕ) (before mid after : Option Files) (were : Changes (put_all fs) before mid)
  where
    first_put : Changes (put_all (take (length fs) (fs ++ file ∷ []))) before mid
    first_put = subst (λ taken. Changes (put_all taken) before mid) (sym (take-append_seam fs (file ∷ []))) were

    -- one more file was put, or begun, after all others
    pub put_last : Changes (put file.0 file.1) mid after → Changes (put_all (fs ++ file ∷ [])) before after
    put_last puts =
        let all : take (length fs + 1) (fs ++ file ∷ []) ≡ fs ++ file ∷ [] = take_all (length fs + 1) (fs ++ file ∷ [])
        (omega (arith, length-append fs (file ∷ []))) in
        subst (λ taken. Changes (put_all taken) before after) all (put_next (fs ++ file ∷ []) (length fs) file before mid after
        (at_seam fs file) first_put puts)

    pub begun_last : MayBegin file mid after → AreBegun (fs ++ file ∷ []) before after
    begun_last may = begun_at (fs ++ file ∷ []) (length fs) file before mid after (at_seam fs file) first_put may

-- what an answer says follows from what it says otherwise
pub on_ok_by : {T E : Type 0} (result : Result T E) {P Q : Type 0} → (P → Q) → OnOk result P → OnOk result Q
on_ok_by (Ok x) f p = f p
on_ok_by (Err e) f p = tt

pub on_err_by : {T E : Type 0} (result : Result T E) {P Q : Type 0} → (P → Q) → OnErr result P → OnErr result Q
on_err_by (Ok x) f p = tt
on_err_by (Err e) f p = f p

pub on_err : {T E : Type 0} (result : Result T E) {P : Type 0} → P → OnErr result P
on_err (Ok x) p = tt
on_err (Err e) p = p
