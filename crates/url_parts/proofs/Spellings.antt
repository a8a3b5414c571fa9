-- How URLs are spelled beside a playlist.
use Rattle.std.proofs.Common.{◌≡◌, ◌≢◌, ℕ, ◌+◌, ◌≤◌, ◌==◌, arith, append_assoc, length-append, Bool, true, false, List, [], ◌∷◌, ◌++◌, length, drop, Result}
use Rattle.std.proofs.Common.{Ok, Err, Some, None, Option, Bor}
use Rattle.std.proofs.{Common.{refl, sym, ap, subst, ◌∙◌, ⊎_elim, if◌then◌else◌}, lemmas.Bool.{and_parts, cases_Bool}}
use Rattle.std.proofs.lemmas.Bool.{cond-false, cond_both, le-ltb, Decides.nat_tests}
use Rattle.std.proofs.lemmas.{Bool.Decides.Decides-eqb, List.drop_at, List.Elements.All-drop, List.Folds.list_all-append}
use Rattle.std.proofs.lemmas.Slice.Eq.{starts_is, bytes_eq-Decides}
use Rattle.std.specs.{Prelude.{bytes_eq, nat_eq, nat_le, not, codes}, List.{flat_map, list_all, starts_with}, Option.option_copied, Bool.then_some}
use Rattle.url.proofs.InputLemmas.{Passes, All_from_list_all, list_all_from_All}
use Rattle.bridge_io.specs.Names.{is_name, is_name_byte, is_proper_part, parts_after}
use Rattle.url_parts.specs.Paths.{IsBeneath}
use Rattle.url_parts.proofs.Relative.{name_is_path, name_is_plain, resolve_plain}
use Rattle.url_parts.specs.declared.fault.UrlFault.{UrlFault}
use Rattle.url_parts.specs.Addresses.{absolute, folder_of, is_absolute, is_address_byte, resolve, unless_long, IsAddress, IsBase}
use Rattle.url_parts.specs.Spelling.{IsInner, PlaylistPlace, ReachesNames, StandsFor, begins_uri, is_given, is_relative, place_of, playlist_url}
use Rattle.url_parts.specs.Spelling.{reference_of, rest_of, spelled, spelled_beside, steps_up}
use Rattle.url_parts.proofs.{Bases.bytes_from_accepted, Parsed.{address_is_base, given_again}}

-- the steps that a byte of a name adds
abbrev pub step_at : ℕ → List ℕ
step_at b = if b == 47 then codes "../" else []

-- a name has one part more than slashes
steps_by_bytes : (front bytes : List ℕ) → flat_map (λ part. codes "../") (parts_after front bytes) ≡ codes "../" ++ flat_map step_at bytes
steps_by_bytes front [] = refl
steps_by_bytes front (b ∷ bs) =
    let f : List ℕ → List ℕ = λ part. codes "../" in
    elim (b == 47) as (λ t. flat_map f (if t then front ∷ parts_after [] bs else parts_after (front ++ b ∷ []) bs)
    ≡ codes "../" ++ ((if t then codes "../" else []) ++ flat_map step_at bs)) [
      | true ↦ ap (λ t. codes "../" ++ t) (steps_by_bytes [] bs)
      | false ↦ steps_by_bytes (front ++ b ∷ []) bs
    ]

pub steps_up_by_bytes : (out : List ℕ) → steps_up out ≡ codes "../" ++ flat_map step_at out
steps_up_by_bytes out = steps_by_bytes [] out

-- a URL that doesn't begin with the folder's text has no rest
pub rest_outside : (place : PlaylistPlace) (address : List ℕ) → ((rest : List ℕ) → address ≢ place.folder ++ rest)
    → None ≡ rest_of place address
rest_outside place address never =
    ⊎_elim
    (λ begins. absurd (never _ ((starts_is Decides-eqb address place.folder (starts_with nat_eq address place.folder) refl).0 begins)))
    (λ other. rw other refl)
    (cases_Bool (starts_with nat_eq address place.folder))

-- the rest of another one is kept where the steps and this rest give the URL
pub rest_inside : (place : PlaylistPlace) (address reference rest : List ℕ) (given : Bool) → address ≡ place.folder ++ rest
    → reference ≡ place.up ++ rest → given ≡ is_given address (resolve place.url reference)
    → (if given then Some rest else None) ≡ rest_of place address
rest_inside place address reference rest given whole spelled is =
    let begins = (starts_is Decides-eqb address place.folder (starts_with nat_eq address place.folder) refl).1 rest whole in
    let back : drop (length place.folder) address ≡ rest = ap (drop (length place.folder)) whole ∙ drop_at place.folder rest _ refl in
    rw (begins, back, is, spelled) refl

-- the text in such an option
pub copied_then_some : (given : Bool) (rest : Bor (List ℕ)) → option_copied (then_some given rest) ≡ (if given then Some rest.now else None)
copied_then_some true rest = refl
copied_then_some false rest = refl

-- a name behind the folder is kept without a test where names are reached
pub rest_named : (place : PlaylistPlace) (address rest : List ℕ) → ReachesNames place → address ≡ place.folder ++ rest
    → is_name rest ≡ true → length address ≤ 2048 → Some rest ≡ rest_of place address
rest_named place address rest reaches whole named short =
    let gives : resolve place.url (place.up ++ rest) ≡ Ok address = reaches rest named ∙ ap unless_long (sym whole)
    ∙ cond-false _ _ _ (le-ltb 2048 (length address) short) in
    rest_inside place address (place.up ++ rest) rest true whole refl
    (sym (ap (is_given address) gives ∙ (bytes_eq-Decides address address).1 refl))

-- the parts before and behind a `/`
parts_around : (front one other : List ℕ) → parts_after front (one ++ 47 ∷ other) ≡ parts_after front one ++ parts_after [] other
parts_around front [] other = refl
parts_around front (b ∷ bs) other =
    elim (b == 47) as (λ t. (if t then front ∷ parts_after [] (bs ++ 47 ∷ other) else parts_after (front ++ b ∷ []) (bs ++ 47 ∷ other))
    ≡ (if t then front ∷ parts_after [] bs else parts_after (front ++ b ∷ []) bs) ++ parts_after [] other) [
      | true ↦ ap (λ t. front ∷ t) (parts_around [] bs other)
      | false ↦ parts_around (front ++ b ∷ []) bs other
    ]

pub has_bytes : (name : List ℕ) → is_name name ≡ true → 1 ≤ length name
has_bytes name named =
    let first : nat_le 1 (length name) ≡ true = (and_parts _ _ (and_parts _ _ (and_parts _ _ named).0).0).0 in
    grind (arith, nat_tests)

-- two names with a `/` between them are a name
between : (one other : List ℕ) → is_name one ≡ true → is_name other ≡ true → length one + 1 + length other ≤ 255
    → is_name (one ++ 47 ∷ other) ≡ true
between one other first second fits =
    let a = and_parts _ _ first in let b = and_parts _ _ second in
    let one_bytes : list_all is_name_byte one ≡ true = (and_parts _ _ a.0).1 in
    let other_bytes : list_all is_name_byte other ≡ true = (and_parts _ _ b.0).1 in
    let one_parts : list_all is_proper_part (parts_after [] one) ≡ true = a.1 in
    let bytes : list_all is_name_byte (one ++ 47 ∷ other) ≡ true =
    rw (list_all-append is_name_byte one (47 ∷ other), one_bytes) other_bytes in
    let parts : list_all is_proper_part (parts_after [] (one ++ 47 ∷ other)) ≡ true =
    rw (parts_around [] one other, list_all-append is_proper_part (parts_after [] one) (parts_after [] other), one_parts) b.1 in
    let sum = length-append one (47 ∷ other) in
    let long : nat_le 1 (length (one ++ 47 ∷ other)) ≡ true = grind (arith, nat_tests) in
    let short : nat_le (length (one ++ 47 ∷ other)) 255 ≡ true = grind (arith, nat_tests) in
    rw (long, short, bytes, parts) refl

inner_named : (inner name : List ℕ) → IsInner inner → is_name name ≡ true → length inner + length name ≤ 255 → is_name (inner ++ name) ≡ true
inner_named inner name is named fits = ⊎_elim
    (λ empty. rw empty named)
    (λ (there : (parts : List ℕ) × ((inner ≡ parts ++ 47 ∷ []) × (is_name parts ≡ true))).
    let sum = ap length there.1.0 ∙ length-append there.0 (47 ∷ []) in
    rw (there.1.0, append_assoc there.0 (47 ∷ []) name) (between there.0 name there.1.1 named (omega (arith, sum, fits))))
    is

-- names of the folder's, or beneath, are spelled behind the steps up
pub names_spelled : (place : PlaylistPlace) (folder inner : List ℕ) → ReachesNames place → folder ≡ place.folder ++ inner → IsInner inner
    → length folder ≤ 1793 → (name : List ℕ) → is_name name ≡ true → length inner + length name ≤ 255
    → spelled_beside place (folder ++ name) ≡ (place.up ++ inner) ++ name
unfolding spelled_beside
names_spelled place folder inner reaches whole is short name named fits =
    let address = folder ++ name in
    let rest = inner ++ name in
    let at : address ≡ place.folder ++ rest = ap (λ t. t ++ name) whole ∙ append_assoc place.folder inner name in
    let begins = (starts_is Decides-eqb address place.folder (starts_with nat_eq address place.folder) refl).1 rest at in
    let back : drop (length place.folder) address ≡ rest = ap (drop (length place.folder)) at ∙ drop_at place.folder rest _ refl in
    let sum = length-append folder name in
    let small : length address ≤ 2048 = omega (arith, sum, short, fits) in
    let gives : resolve place.url (place.up ++ rest) ≡ Ok address = reaches rest (inner_named inner name is named fits)
    ∙ ap unless_long (sym at) ∙ cond-false _ _ _ (le-ltb 2048 (length address) small) in
    rw (begins, back, gives, (bytes_eq-Decides address address).1 refl) (sym (append_assoc place.up inner name))

-- a text that another one begins, and is as long at least, is begun by a third that begins the whole
begun_by : (folder name base rest : List ℕ) → length base ≤ length folder → folder ++ name ≡ base ++ rest
    → (inner : List ℕ) × (folder ≡ base ++ inner)
begun_by folder name [] rest fits is = (folder, refl)
begun_by [] name (b ∷ bs) rest fits is = absurd (omega (arith, fits))
begun_by (f ∷ fs) name (b ∷ bs) rest fits is =
    let head : f ≡ b = cc in
    let tail : fs ++ name ≡ bs ++ rest = cc in
    let later = begun_by fs name bs rest (omega (arith, fits)) tail in
    (later.0, ap (λ h. h ∷ fs) head ∙ ap (λ t. b ∷ t) later.1)

-- names in a folder outside the base's stay absolute
pub outside_stays : (place : PlaylistPlace) (folder : List ℕ) → ((inner : List ℕ) → folder ≢ place.folder ++ inner)
    → length place.folder ≤ length folder → (name : List ℕ) → spelled_beside place (folder ++ name) ≡ folder ++ name
unfolding spelled_beside
outside_stays place folder never fits name =
    let address = folder ++ name in
    ⊎_elim
    (λ begins. absurd (let whole = (starts_is Decides-eqb address place.folder (starts_with nat_eq address place.folder) refl).0 begins in
    let inner = begun_by folder name place.folder (drop (length place.folder) address) fits whole in never inner.0 inner.1))
    (λ other. rw other refl)
    (cases_Bool (starts_with nat_eq address place.folder))

picked : (given : Bool) (place : PlaylistPlace) → given ≡ true → (if given then Some place else None) ≡ Some place
picked given place is = rw is refl

-- the place that is made of a playlist's URL where this is a base's text in its normal form
pub made : (base out file text folder up url : List ℕ) (found : Option (List ℕ)) → text ≡ playlist_url base out file
    → found ≡ (if is_given text (absolute text) then Some text else None) → found ≡ Some url → folder ≡ base → up ≡ steps_up out
    → Some (record { folder = folder; up = up; url = url }) ≡ place_of base out file
unfolding place_of
made base out file text folder up url found whole told is same steps =
    ⊎_elim
    (λ given.
    let full = playlist_url base out file in
    let own : text ≡ url = (let e = rw given at (sym told ∙ is) in cc) in
    let place : PlaylistPlace = record { folder = base; up = steps_up out; url = full } in
    ap (λ (f : List ℕ). Some (record { folder = f; up = up; url = url })) same
    ∙ ap (λ (u : List ℕ). Some (record { folder = base; up = u; url = url })) steps
    ∙ ap (λ (l : List ℕ). Some (record { folder = base; up = steps_up out; url = l })) (sym own ∙ whole)
    ∙ sym (picked (is_given full (absolute full)) place (ap (λ t. is_given t (absolute t)) (sym whole) ∙ given)))
    (λ other. absurd (let e = rw other at (sym told ∙ is) in cc))
    (cases_Bool (is_given text (absolute text)))

-- texts that aren't unequal
pub not_unequal : (one other : List ℕ) → false ≡ not (bytes_eq one other) → one ≡ other
not_unequal one other is = ⊎_elim
    (λ same. (bytes_eq-Decides one other).0 same)
    (λ apart. absurd (let e = rw apart at is in cc))
    (cases_Bool (bytes_eq one other))

-- names are reached where the steps up lead to the folder
pub reached : (url up folder deeper : List ℕ) → IsBase folder → IsBeneath url up deeper → deeper ≡ folder → folder_of folder ≡ folder
    → ReachesNames (record { folder = folder; up = up; url = url })
reached url up folder deeper is beneath same own name named =
    let plain = name_is_plain name named in
    beneath name (name_is_path name plain) ∙ ap (λ base. resolve base name) same ∙ resolve_plain folder name is plain
    ∙ ap (λ front. unless_long (front ++ name)) own

-- ---- what stands for a URL

steps_bytes : (parts : List (List ℕ)) → list_all is_address_byte (flat_map (λ part. codes "../") parts) ≡ true
steps_bytes [] = refl
steps_bytes (part ∷ parts) = steps_bytes parts

steps_begin : (out rest : List ℕ) → begins_uri (steps_up out ++ rest) ≡ true
steps_begin out rest = rw (steps_up_by_bytes out) refl

address_bytes : (address : List ℕ) → IsAddress address → list_all is_address_byte address ≡ true
address_bytes address is =
    let base = address_is_base address is in
    subst (λ t. list_all is_address_byte t ≡ true) base.spelled (bytes_from_accepted base.url _ base.is.accepted)

rest_bytes : (n : ℕ) (address : List ℕ) → IsAddress address → list_all is_address_byte (drop n address) ≡ true
rest_bytes n address is = list_all_from_All is_address_byte (drop n address) (All-drop (Passes is_address_byte) n address
    (All_from_list_all is_address_byte address (address_bytes address is)))

address_begins : (address : List ℕ) → is_absolute address ≡ true → begins_uri address ≡ true
address_begins address web =
    let front = λ (text : List ℕ) (is : starts_with nat_eq address text ≡ true).
    (starts_is Decides-eqb address text (starts_with nat_eq address text) refl).0 is in
    ⊎_elim
    (λ http. ap begins_uri (front (codes "http://") http))
    (λ other. ap begins_uri (front (codes "https://") (rw other at web)))
    (cases_Bool (starts_with nat_eq address (codes "http://")))

-- an absolute URL stands for itself in each playlist
pub stands_alone : (playlist address : List ℕ) → IsAddress address → StandsFor playlist address address
stands_alone playlist address is = record {
  bytes = address_bytes address is;
  begins = address_begins address is.web;
  given = given_again address is playlist;
}

given_by : (address : List ℕ) (result : Result (List ℕ) UrlFault) → is_given address result ≡ true → result ≡ Ok address
given_by address (Ok url) is = ap Ok ((bytes_eq-Decides url address).0 is)
given_by address (Err fault) is = cc

stands_at : (place : PlaylistPlace) (out address : List ℕ) → place.up ≡ steps_up out → IsAddress address
    → StandsFor place.url address (spelled_beside place address)
unfolding spelled_beside
stands_at place out address up is =
    cond_both (is_relative place address) (reference_of place address) address (StandsFor place.url address)
    (λ relative. record {
      bytes = rw (up, list_all-append is_address_byte (steps_up out) (drop (length place.folder) address), steps_bytes (parts_after [] out))
          (rest_bytes (length place.folder) address is);
      begins = rw up (steps_begin out (drop (length place.folder) address));
      given = given_by address (resolve place.url (reference_of place address)) (and_parts _ _ relative).1;
    })
    (λ _. stands_alone place.url address is)

-- what is written beside a playlist stands for the URL there
pub stands_beside : (base out file address : List ℕ) → IsAddress address
    → StandsFor (playlist_url base out file) address (spelled (place_of base out file) address)
unfolding place_of
stands_beside base out file address is =
    let url = playlist_url base out file in
    let place : PlaylistPlace = record { folder = base; up = steps_up out; url = url } in
    cond_both (is_given url (absolute url)) (Some place) None (λ place. StandsFor url address (spelled place address))
    (λ _. stands_at place out address refl is) (λ _. stands_alone url address is)
