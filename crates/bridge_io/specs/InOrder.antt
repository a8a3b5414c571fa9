-- Files that are written one after another, each a name and a text, and what is left of them after an error.
use Rattle.std.specs.{Prelude.{◌≡◌, ◌⊎◌, ℕ, ◌+◌, List, [], ◌∷◌, ◌++◌, take, Option, None, Some}, List.slice_get, Option.option_map}
use Rattle.std.proofs.{Common.{◌∙◌, ap, sym, refl, inl, inr}, lemmas.List.take_more, lemmas.Option.slice_get_within}
use Rattle.std.proofs.lemmas.Option.{get_or_from_slice_get}
use Rattle.bridge_io.specs.{Outside.{Files, put, Changes}, Written.{HasFront, front_of_all}}

-- the files with some files put, the first of them first
abbrev pub put_all : List (List ℕ × List ℕ) → Files → Files
put_all [] files = files
put_all (f ∷ fs) files = put_all fs (put f.0 f.1 files)

-- a file is as it was, or holds a prefix of its text; every other file is as before
abbrev pub MayBegin : List ℕ × List ℕ → Option Files → Option Files → Type 0
MayBegin file before after = (after ≡ before) ⊎ HasFront file.0 file.1 before after

-- The first `count` files are written, and the next one may be begun. Every other file is as before.
pub record AreBegun (files : List (List ℕ × List ℕ)) (before after : Option Files) : Type 0 where
  pub count : ℕ
  pub file : List ℕ × List ℕ
  pub next : slice_get files count ≡ Some file
  pub begun : MayBegin file (option_map (put_all (take count files)) before) after

put_all-append : (fs : List (List ℕ × List ℕ)) (f : List ℕ × List ℕ) (files : Files)
    → put_all (fs ++ f ∷ []) files ≡ put f.0 f.1 (put_all fs files)
put_all-append [] f files = refl
put_all-append (g ∷ fs) f files = put_all-append fs f (put g.0 g.1 files)

-- writing the first i files and then the one at i writes the first i + 1
put_all-take : (fs : List (List ℕ × List ℕ)) (i : ℕ) (f : List ℕ × List ℕ) (files : Files) → slice_get fs i ≡ Some f
    → put_all (take (i + 1) fs) files ≡ put f.0 f.1 (put_all (take i fs) files)
put_all-take fs i f files is =
    let one_more = take_more fs i f (slice_get_within fs i f is) ∙ ap (λ g. take i fs ++ g ∷ []) (get_or_from_slice_get fs i f f is) in
    ap (λ gs. put_all gs files) one_more ∙ put_all-append (take i fs) f files

-- after the first i files, the one at i is written
pub put_next : (files : List (List ℕ × List ℕ)) (i : ℕ) (file : List ℕ × List ℕ) (before mid after : Option Files)
    → slice_get files i ≡ Some file → Changes (put_all (take i files)) before mid → Changes (put file.0 file.1) mid after
    → Changes (put_all (take (i + 1) files)) before after
put_next files i file None mid after is were puts = puts ∙ ap (option_map (put file.0 file.1)) were
put_next files i file (Some all) mid after is were puts = puts ∙ ap (option_map (put file.0 file.1)) were
    ∙ ap Some (sym (put_all-take files i file all is))

-- after the first i files, the one at i may be begun
pub begun_at : (files : List (List ℕ × List ℕ)) (i : ℕ) (file : List ℕ × List ℕ) (before mid after : Option Files)
    → slice_get files i ≡ Some file → Changes (put_all (take i files)) before mid → MayBegin file mid after → AreBegun files before after
begun_at files i file before mid after is were may = record { count = i; file = file; next = is; begun = rw were at may }

-- files that were written up to one of them count as begun
pub begun_whole : (files : List (List ℕ × List ℕ)) (i : ℕ) (file : List ℕ × List ℕ) (before after : Option Files)
    → slice_get files i ≡ Some file → Changes (put_all (take (i + 1) files)) before after → AreBegun files before after
begun_whole files i file None after is puts = record { count = i; file = file; next = is; begun = inl puts }
begun_whole files i file (Some all) after is puts =
    record {
      count = i;
      file = file;
      next = is;
      begun = inr (front_of_all file.0 file.1 (Some (put_all (take i files) all)) after (puts
          ∙ ap Some (put_all-take files i file all is)));
    }
