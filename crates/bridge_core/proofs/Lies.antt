-- Where a file lies under a base, and what is read there.
use Rattle.std.proofs.Common.{◌≡◌, ◌&&◌, ℕ, List, ◌++◌, length, Option, None, Some, option_map, Ok, inl, inr, refl}
use Rattle.std.proofs.{Common.{sym, ◌∙◌, ap, subst}, lemmas.Bool.cases_Bool}
use Rattle.std.specs.{Prelude.{is_some, nat_lt, true}, Option.option_and_then}
use Rattle.bridge_io.specs.{Outside.Files, Slurped.{whole_file, within}, Answer.told_as}
use Rattle.presentation.proofs.Filling.{ok_under}
use Rattle.url_parts.specs.Addresses.{absolute}
use Rattle.bridge_report.specs.{Bases.{file_url, folder_url, is_folder, own_address}, Reading.{content_of, manifest_limit}}
use Rattle.bridge_report.specs.Refusals.{refusal_of_file}
use Rattle.bridge_playlists.specs.{declared.place.StorePlace.StorePlace, Places.{store_place_of, store_place_with}}
use Rattle.bridge_playlists.proofs.Places.{folder_written, written_so}

-- ---- what is read

there_of : (limit : ℕ) (found : Option (List ℕ)) (bytes : List ℕ) → within limit found ≡ Ok bytes → found ≡ Some bytes
there_of limit None bytes is = absurd (cc)
there_of limit (Some all) bytes is = elim (cases_Bool (nat_lt limit (length all))) [
  | inl long ↦ absurd (let e = rw long at is in cc)
  | inr short ↦ (let e : all ≡ bytes = (let told = rw short at is in cc) in ap Some e)
]

pub content_read : (file : List ℕ) (files : Files) (bytes : List ℕ) → content_of file files ≡ Ok bytes → files file ≡ Some bytes
content_read file files bytes is =
    there_of manifest_limit (files file) bytes
    (ok_under refusal_of_file (whole_file manifest_limit file files) bytes (ok_under _
    (told_as refusal_of_file (whole_file manifest_limit file files)) bytes is))

-- ---- where it lies

url_written : (base file url : List ℕ) → file_url base file ≡ Some url → (absolute url ≡ Ok url) × (url ≡ base ++ file)
unfolding file_url
url_written base file url is = elim (cases_Bool (is_folder base && is_some (own_address base))) [
  | inl is_so ↦ (let own = written_so (base ++ file) url (absolute (base ++ file)) (rw is_so at is) in (ap absolute own.1 ∙ own.0, own.1))
  | inr other ↦ absurd (let e = rw other at is in cc)
]

pub record Lies (base name : List ℕ) (place : StorePlace) : Type 0 where
  pub is_base : is_folder base ≡ true
  pub folder : place.folder ≡ base
  pub file : place.file ≡ name
  pub at : file_url base name ≡ Some place.url
  pub url : place.url ≡ base ++ name
  pub own : absolute place.url ≡ Ok place.url

pub in_folder_is : (base name : List ℕ) (place : StorePlace) → Lies base name place → place.url ≡ place.folder ++ place.file
in_folder_is base name place lies =
    lies.url ∙ ap (λ folder. folder ++ name) (sym lies.folder) ∙ ap (λ file. place.folder ++ file) (sym lies.file)

lies_with : (base file : List ℕ) (folder url : Option (List ℕ)) (place : StorePlace) → folder_url base ≡ folder → file_url base file ≡ url
    → option_and_then (λ folder. option_map (store_place_with file folder) url) folder ≡ Some place → Lies base file place
lies_with base file None url place at there is = absurd (cc)
lies_with base file (Some folder) None place at there is = absurd (cc)
lies_with base file (Some folder) (Some url) place at there is =
    let same : store_place_with file folder url ≡ place = cc in
    let under = folder_written base folder at in
    let own = url_written base file url there in
    subst (Lies base file) same (record { is_base = under.0; folder = under.1; file = refl; at = there; url = own.1; own = own.0 })

pub lies_of : (base file : List ℕ) (place : StorePlace) → store_place_of base file ≡ Some place → Lies base file place
unfolding store_place_of
lies_of base file place is = lies_with base file (folder_url base) (file_url base file) place refl refl is
