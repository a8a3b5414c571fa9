-- Rows that show elements side by side, and more of them behind.
use Rattle.std.proofs.{Common.{◌≡◌, ℕ, suc, ◌+◌, ◌++◌, length, ap, arith, append_assoc, refl}, lemmas.List.length-append}
use Rattle.mpd_tree.specs.{Forests.flat, Pieces.followed_by, Trees.{Forest, nothing, element}}

-- more of them behind
pub joined : (f g : Forest) (at : ℕ) → flat at (followed_by f g) ≡ flat at f ++ flat (at + length (flat at f)) g
joined nothing g at = ap (λ n. flat n g) (omega arith)
joined (element h children others) g at =
    let inner = flat (suc at) children in
    let next : ℕ = suc at + length inner in
    let outer = flat next others in
    let ends : next + length outer ≡ at + suc (length (inner ++ outer)) = omega (arith, length-append inner outer) in
    rw (joined others g next, ends, append_assoc inner outer (flat (at + suc (length (inner ++ outer))) g)) refl
