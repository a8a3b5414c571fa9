-- What is made of names and of an MPD's values is what they mean.
use Rattle.timeline.specs.declared.names.Names.TheVariants as names
use Rattle.timeline.specs.Names as told_names
use Rattle.std.proofs.Common.{◌≡◌, ℕ, Bool, true, false, List, [], ◌∷◌, slice_get, Option, None, Some, Result, Ok, Err, refl, sym, ◌∙◌}
use Rattle.std.proofs.Common.{ap}
use Rattle.std.specs.{Prelude.{if◌then◌else◌, length, nat_lt, not}, List.list_all}
use Rattle.url_parts.specs.declared.fault.UrlFault.TheVariants.{Refused, Scheme, TooLong}
use Rattle.url_parts.specs.Addresses.{absolute, accepted, accepted_url, chain, is_absolute, is_address_byte, is_web, resolve}
use Rattle.url_parts.specs.{Addresses.{resolve_more, text_of, url_of}, declared.address.Part.Part, declared.fault.UrlFault.UrlFault}
use Rattle.url_parts.specs.declared.range.Range.{Range}
use Rattle.url.specs.{Parser.{Parsed, parse_url}, Parts.Parts}
use Rattle.timeline.specs.{declared.names.Names.Names, Names.{part_at, part_of, referred}}
use Rattle.mpd_entries.specs.declared.ref_part.RefPart.{RefPart}
use Rattle.presentation.specs.Meanings.{part_with, address_by, address_of, deepest, listed_part, own_part, part_by, part_meant, written}
use Rattle.presentation.specs.MeaningLaws.{MadeAreMeant}

-- ---- addresses

if_not : {X E : Type 0} (b : Bool) (e : E) (r : Result X E) (x : X) → (if b then Err e else r) ≡ Ok x → r ≡ Ok x
if_not true e r x is = absurd (cc)
if_not false e r x is = is

accepted_text : (url : Parts) (text : List ℕ) → accepted_url url ≡ Ok text → text ≡ text_of url
accepted_text url text is =
    let by_length : Result (List ℕ) UrlFault = if nat_lt 2048 (length (text_of url)) then Err TooLong else Ok (text_of url) in
    let by_scheme : Result (List ℕ) UrlFault = if not (is_web url.scheme) then Err Scheme else by_length in
    let scheme : by_scheme ≡ Ok text = if_not (not (list_all is_address_byte (text_of url))) Refused by_scheme text is in
    let long : by_length ≡ Ok text = if_not (not (is_web url.scheme)) Scheme by_length text scheme in
    let whole : Ok (text_of url) ≡ Ok text = if_not (nat_lt 2048 (length (text_of url))) TooLong (Ok (text_of url)) text long in
    let same : text_of url ≡ text = cc in
    sym same

parsed_text : (r : Parsed Parts) (text : List ℕ) → accepted r ≡ Ok text → text ≡ written r
parsed_text (Ok url) text is = accepted_text url text is
parsed_text (Err e) text is = absurd (cc)

chosen : (b : Bool) (p q : Parsed Parts) (text : List ℕ) → (if b then accepted p else accepted q) ≡ Ok text
    → text ≡ (if b then written p else written q)
chosen true p q text is = parsed_text p text is
chosen false p q text is = parsed_text q text is

resolved : (base reference text : List ℕ) → resolve base reference ≡ Ok text → text ≡ address_of base reference
unfolding resolve absolute address_of
resolved base reference text is = chosen (is_absolute reference) (parse_url None reference) (parse_url (url_of base) reference) text is

pub reached : (base : List ℕ) (reference : Option (List ℕ)) (text : List ℕ) → referred base reference ≡ Ok text
    → text ≡ address_by base reference
reached base None text is = (let same : base ≡ text = cc in sym same)
reached base (Some reference) text is = resolved base reference text is

chained_behind : (r : Result (List ℕ) UrlFault) (address base : List ℕ) (references : List (List ℕ))
    → ((next : List ℕ) → r ≡ Ok next → next ≡ address)
    → ((next : List ℕ) → chain next references ≡ Ok base → base ≡ deepest next references)
    → resolve_more (λ next. chain next references) r ≡ Ok base → base ≡ deepest address references
chained_behind (Ok next) address base references meant later is = later next is ∙ ap (λ b. deepest b references) (meant next refl)
chained_behind (Err fault) address base references meant later is = absurd (cc)

pub chained : (references : List (List ℕ)) (url base : List ℕ) → chain url references ≡ Ok base → base ≡ deepest url references
chained [] url base is = (let same : url ≡ base = cc in sym same)
chained (reference ∷ references) url base is =
    chained_behind (resolve url reference) (address_of url reference) base references (resolved url reference)
    (λ next told. chained references next base told) is

-- ---- parts

part_is : (range : Option Range) (r : Result (List ℕ) UrlFault) (address : List ℕ) (part : Part)
    → ((text : List ℕ) → r ≡ Ok text → text ≡ address)
    → part_at range r ≡ Ok part → part ≡ part_with range address
part_is range (Ok text) address part meant is = (let same : part_with range text ≡ part = cc in
    sym same ∙ ap (part_with range) (meant text refl))
part_is range (Err fault) address part meant is = absurd (cc)

listed_is : (base : List ℕ) (o : Option RefPart) (part : Part) → told_names.listed_part base o ≡ Ok part → part ≡ listed_part base o
listed_is base None part is = part_is None (Ok base) base part (λ text same. (let is : base ≡ text = cc in sym is)) is
listed_is base (Some one) part is = part_is one.range (referred base one.reference) (address_by base one.reference) part
    (reached base one.reference) is

own_is : (o : Option Part) (part : Part) → told_names.own_part o ≡ Ok part → part ≡ own_part o
own_is None part is = absurd (cc)
own_is (Some one) part is = (let same : one ≡ part = cc in sym same)

named_is : (by : Names) (place number time : ℕ) (part : Part) → part_of by place number time ≡ Ok part → part ≡ part_by by place number time
named_is (names.Template media id bandwidth base) place number time part is =
    part_is None (resolve base _) (address_of base _) part (resolved base _) is
named_is (names.List parts base) place number time part is = listed_is base (slice_get parts place) part is
named_is (names.Shared parts base) place number time part is = listed_is base (slice_get parts place) part is
named_is (names.Addresses parts) place number time part is = own_is (slice_get parts place) part is

pub made_are_meant : MadeAreMeant
unfolding part_meant
made_are_meant timeline x part is = named_is timeline.names _ _ _ part is
