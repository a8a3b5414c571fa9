-- What comes to a file's end while a text is written.
use Rattle.std.proofs.Common.{◌≡◌, ℕ, List, [], ◌+◌, ◌++◌, length, take, Option, None, Some, true, false, cond, bytes_eq, unwrap_or, inl}
use Rattle.std.proofs.{Common.{inr, refl, sym, ap, ◌∙◌}, lemmas.Slice.Eq.bytes_eq-Decides, Math.Seq.take-append-add}
use Rattle.bridge_io.specs.{Outside.{Files, put, extended, Changes, MayExtend}, Written.{HasFront, front_of_more, front_of_all}}
use Rattle.bridge_io.proofs.Files.{same_files}

-- a file that is put is there
put_there : (name bytes : List ℕ) (files : Files) → put name bytes files name ≡ Some bytes
put_there name bytes files = ap (λ b. cond b (Some bytes) (files name)) ((bytes_eq-Decides name name).1 refl)

-- a file that is put again is put once
put_again : (name a b : List ℕ) (files : Files) → put name b (put name a files) ≡ put name b files
put_again name a b files = same_files (λ q.
    elim (bytes_eq name q) as (λ t. cond t (Some b) (cond t (Some a) (files q)) ≡ cond t (Some b) (files q)) [ true ↦ refl | false ↦ refl ])

extended-put : (name front piece : List ℕ) (files : Files) → extended name piece (put name front files) ≡ put name (front ++ piece) files
extended-put name front piece files =
    ap (λ (o : Option (List ℕ)). put name (unwrap_or o [] ++ piece) (put name front files)) (put_there name front files)
    ∙ put_again name front (front ++ piece) files

-- a piece at the end of a file that was put
pub put_more : (name front piece : List ℕ) (first mid now : Option Files) → Changes (put name front) first mid
    → Changes (extended name piece) mid now → Changes (put name (front ++ piece)) first now
put_more name front piece None mid now was grows = rw was at grows
put_more name front piece (Some files) mid now was grows = (rw was at grows) ∙ ap Some (extended-put name front piece files)

-- what a failed append leaves of a text of which a front was there
pub front_of_append : (name front piece text : List ℕ) (first mid now : Option Files) → front ++ piece ≡ text
    → Changes (put name front) first mid → MayExtend name piece mid now → HasFront name text first now
front_of_append name front piece text first mid now whole was (inl same) =
    rw (← whole) (front_of_more name front piece first now (front_of_all name front first now (same ∙ was)))
front_of_append name front piece text first mid now whole was (inr (n, grows)) =
    let taken : take (length front + n) text ≡ front ++ take n piece = ap (take (length front + n)) (sym whole)
    ∙ take-append-add front piece n in
    (length front + n, rw taken (put_more name front (take n piece) first mid now was grows))
