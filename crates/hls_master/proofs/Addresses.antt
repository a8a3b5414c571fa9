-- An address that isn't refused is what its URI writes.
use Rattle.std.proofs.Common.{◌≡◌, ℕ, Bool, true, false, cond, List, ◌++◌, length, not, ltb, Ok, Err, None, refl}
use Rattle.std.specs.List.{list_all}
use Rattle.url.specs.{Parser.{Parsed, parse_url}, Parts.Parts}
use Rattle.bridge_io.specs.Names.{is_name}
use Rattle.url_parts.specs.Addresses.{text_of, url_of, is_absolute, folder_of, beside, unchanged, is_normal, resolve, absolute, accepted}
use Rattle.url_parts.specs.{Addresses.{is_address_byte, is_web}, declared.fault.UrlFault.TheVariants.{Refused, Scheme, TooLong}}
use Rattle.hls_master.specs.Addresses.{address_of, address_value, text_or_none}

one_of_four : (url text : List ℕ) (refused other long : Bool)
    → cond refused (Err Refused) (cond other (Err Scheme) (cond long (Err TooLong) (Ok url))) ≡ Ok text → url ≡ text
one_of_four url text true other long h = cc
one_of_four url text false true long h = cc
one_of_four url text false false true h = cc
one_of_four url text false false false h = cc

one_of_three : (given text : List ℕ) (odd long : Bool) → cond odd (Err Refused) (cond long (Err TooLong) (Ok given)) ≡ Ok text
    → given ≡ text
one_of_three given text true long h = cc
one_of_three given text false true h = cc
one_of_three given text false false h = cc

from_url : (parsed : Parsed Parts) (text : List ℕ) → accepted parsed ≡ Ok text → text_or_none parsed ≡ text
from_url (Err e) text h = cc
from_url (Ok url) text h = one_of_four (text_of url) text (not (list_all is_address_byte (text_of url))) (not (is_web url.scheme))
    (ltb 2048 (length (text_of url))) h

from_name : (given text : List ℕ) → unchanged given ≡ Ok text → given ≡ text
unfolding unchanged
from_name given text h = one_of_three given text (not (is_normal given)) (ltb 2048 (length given)) h

from_reference : (base uri text : List ℕ) (whole : Bool) → is_absolute uri ≡ whole → resolve base uri ≡ Ok text
    → text_or_none (parse_url (cond whole None (url_of base)) uri) ≡ text
unfolding resolve absolute
from_reference base uri text true e h = from_url _ text (rw e at h)
from_reference base uri text false e h = from_url _ text (rw e at h)

by_name : (base uri text : List ℕ) (named : Bool) → is_name uri ≡ named → cond named (beside base uri) (resolve base uri) ≡ Ok text
    → cond named (folder_of base ++ uri) (text_or_none (parse_url (cond (is_absolute uri) None (url_of base)) uri)) ≡ text
by_name base uri text true e h = from_name _ text h
by_name base uri text false e h = from_reference base uri text (is_absolute uri) refl h

-- a given address is the address of any length
pub given_is_value : (base uri text : List ℕ) → address_of base uri ≡ Ok text → address_value base uri ≡ text
unfolding address_of address_value
given_is_value base uri text h = by_name base uri text (is_name uri) refl h
