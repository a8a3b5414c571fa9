-- An address gives itself.
use Rattle.std.proofs.Common.{◌≡◌, Bool, true, false, List, ℕ, None, Result, Ok, Err, if◌then◌else◌}
use Rattle.std.specs.{Prelude.{length, nat_lt, not}, List.list_all}
use Rattle.url.specs.{Parser.{Parsed, parse_url}, Parts.Parts}
use Rattle.url_parts.specs.{declared.fault.UrlFault.TheVariants.{Refused, Scheme, TooLong}, Addresses.{IsAddress, absolute, accepted}}
use Rattle.url_parts.specs.Addresses.{accepted_url, is_address_byte, is_web, text_of}
use Rattle.presentation.specs.Meanings.{address_of, written}

if_not : {X E : Type 0} (b : Bool) (e : E) (r : Result X E) (x : X) → (if b then Err e else r) ≡ Ok x → r ≡ Ok x
if_not true e r x is = absurd (cc)
if_not false e r x is = is

pub accepted_text : (url : Parts) (text : List ℕ) → accepted_url url ≡ Ok text → text_of url ≡ text
accepted_text url text is =
    let by_length : Result (List ℕ) _ = if nat_lt 2048 (length (text_of url)) then Err TooLong else Ok (text_of url) in
    let by_scheme : Result (List ℕ) _ = if not (is_web url.scheme) then Err Scheme else by_length in
    let scheme : by_scheme ≡ Ok text = if_not (not (list_all is_address_byte (text_of url))) Refused by_scheme text is in
    let long : by_length ≡ Ok text = if_not (not (is_web url.scheme)) Scheme by_length text scheme in
    let whole : Ok (text_of url) ≡ Ok text = if_not (nat_lt 2048 (length (text_of url))) TooLong (Ok (text_of url)) text long in
    cc

written_is : (r : Parsed Parts) (text : List ℕ) → accepted r ≡ Ok text → written r ≡ text
written_is (Ok url) text is = accepted_text url text is
written_is (Err e) text is = absurd (cc)

pub own_address : (base text : List ℕ) → IsAddress text → address_of base text ≡ text
unfolding address_of absolute
own_address base text is = rw is.web (written_is (parse_url None text) text is.normal)
