-- A base is its own address.
use Rattle.std.proofs.Common.{◌≡◌, List, ℕ, Ok}
use Rattle.url_parts.specs.Addresses.{IsAddress, resolve}

pub own_address : (base text : List ℕ) → IsAddress base → text ≡ base → resolve base text ≡ Ok base
unfolding resolve
own_address base text own is = rw (is, own.web) own.normal
