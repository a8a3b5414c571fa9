-- Where a file lies under a base.
use Rattle.std.proofs.Common.{◌≡◌, List, ℕ, Option, None, Some, option_map, Result, Ok, Err, bytes_eq, inl, inr, sym, ◌∙◌, ap, subst, refl}
use Rattle.std.proofs.lemmas.Bool.{cases_Bool}
use Rattle.std.specs.{Prelude.true, Option.option_and_then}
use Rattle.bridge_io.proofs.Texts.{same_bytes}
use Rattle.url_parts.specs.{Addresses.absolute, declared.fault.UrlFault.UrlFault}
use Rattle.bridge_report.specs.Bases.{file_url, folder_url, if_written_so, is_folder}
use Rattle.bridge_playlists.specs.{declared.place.StorePlace.StorePlace, Places.{store_place_of, store_place_with}}

pub written_so : (text url : List ℕ) (r : Result (List ℕ) UrlFault) → if_written_so text r ≡ Some url → (r ≡ Ok url) × (url ≡ text)
written_so text url (Ok found) is = elim (cases_Bool (bytes_eq found text)) [
  | inl same ↦ (let e : found ≡ url = (let all = rw same at is in cc) in (ap Ok e, sym e ∙ same_bytes found text same))
  | inr other ↦ absurd (let e = rw other at is in cc)
]
written_so text url (Err fault) is = absurd (cc)

pub folder_written : (base folder : List ℕ) → folder_url base ≡ Some folder → (is_folder base ≡ true) × (folder ≡ base)
unfolding folder_url
folder_written base folder is = elim (cases_Bool (is_folder base)) [
  | inl is_so ↦ (is_so, (written_so base folder (absolute base) (rw is_so at is)).1)
  | inr other ↦ absurd (let e = rw other at is in cc)
]

under_base : (base file : List ℕ) (folder url : Option (List ℕ)) (place : StorePlace) → folder_url base ≡ folder
    → option_and_then (λ folder. option_map (store_place_with file folder) url) folder ≡ Some place → place.folder ≡ base
under_base base file None url place at is = absurd (cc)
under_base base file (Some folder) None place at is = absurd (cc)
under_base base file (Some folder) (Some url) place at is =
    let same : store_place_with file folder url ≡ place = cc in
    subst (λ (place : StorePlace). place.folder ≡ base) same (folder_written base folder at).1

-- the folder is the base
pub folder_is_base : (base file : List ℕ) (place : StorePlace) → store_place_of base file ≡ Some place → place.folder ≡ base
unfolding store_place_of
folder_is_base base file place is = under_base base file (folder_url base) (file_url base file) place refl is
