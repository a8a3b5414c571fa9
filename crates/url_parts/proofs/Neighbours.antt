-- Texts that go on with a name behind the folder of an address.
use Rattle.std.proofs.{Common.{◌≡◌, ℕ, ◌≤◌, true, List, ◌++◌, length, drop, refl, sym, ap, ◌∙◌, subst}, lemmas.Bool.and_parts}
use Rattle.std.proofs.{lemmas.Bool.Decides.Decides-eqb, lemmas.Slice.Eq.starts_is}
use Rattle.std.specs.{Prelude.nat_eq, List.starts_with}
use Rattle.bridge_io.specs.Names.{is_name}
use Rattle.url_parts.specs.{Addresses.{resolve, unless_long, folder_of, is_name_in, IsAddress, IsBase, IsFolder}, Laws.IsGivenInFolder}
use Rattle.url_parts.proofs.{Bases.{resolve_web_text, web_from_accepted}, Parsed.address_is_base, Relative.{child, child_valid}}
use Rattle.url_parts.proofs.Relative.{child_spelled, accepted_child, name_is_address, name_is_plain}

-- a folder's text and a name is given by each base
resolve_whole : (front name base : List ℕ) → IsBase front → is_name name ≡ true
    → resolve base (folder_of front ++ name) ≡ unless_long (folder_of front ++ name)
resolve_whole front name base is named =
    let url = child is.url name in
    let spelled = child_spelled is.url name is.is ∙ ap (λ t. folder_of t ++ name) is.spelled in
    ap (resolve base) (sym spelled)
    ∙ resolve_web_text url base (child_valid is.url name is.is (name_is_plain name named)) (web_from_accepted is.url _ is.is.accepted)
    ∙ accepted_child is.url name is.is (name_is_plain name named) ∙ ap (λ t. unless_long (folder_of t ++ name)) is.spelled

parts_in : (folder text : List ℕ) → is_name_in folder text ≡ true → (text ≡ folder ++ drop (length folder) text)
    × (is_name (drop (length folder) text) ≡ true)
parts_in folder text is =
    let both = and_parts (starts_with nat_eq text folder) (is_name (drop (length folder) text)) is in
    ((starts_is Decides-eqb text folder (starts_with nat_eq text folder) refl).0 both.0, both.1)

pub given_in : (address text : List ℕ) → IsAddress address → IsGivenInFolder address text
given_in address text is named base =
    let parts = parts_in (folder_of address) text named in
    rw parts.0 (resolve_whole address _ base (address_is_base address is) parts.1)

pub in_folder : (folder text base : List ℕ) → IsFolder folder → is_name_in folder text ≡ true → resolve base text ≡ unless_long text
in_folder folder text base is named = given_in is.address text is.is (rw is.folder_is named) base

pub is_address_in_folder : (folder text : List ℕ) → IsFolder folder → is_name_in folder text ≡ true → length text ≤ 2048 → IsAddress text
is_address_in_folder folder text is named =
    let parts = parts_in folder text named in
    rw parts.0 (subst (λ f. length (f ++ drop (length folder) text) ≤ 2048 → IsAddress (f ++ drop (length folder) text)) is.folder_is
    (name_is_address is.address _ (address_is_base is.address is.is) parts.1))
