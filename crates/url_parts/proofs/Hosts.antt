-- The hosts that the URL Standard reads in a special URL.
use Rattle.std.proofs.Common.{◌≡◌, ◌≢◌, ℕ, zero, suc, ◌+◌, ◌-◌, ◌*◌, ◌/◌, ◌^◌, ◌<◌, ◌≤◌, Bool, true, false, ◌&&◌, ◌==◌, List, [], ◌∷◌, ◌++◌}
use Rattle.std.proofs.Common.{length, get_or, Option, Some, None, All, sym, refl, inl, inr, subst, ⊎_elim, arith, length-append, lit<}
use Rattle.std.proofs.{Common.mod-lt, NetLemmas.Ipv6.read_ipv6_sound, lemmas.Int.Digits.digits_value-lt, Math.Nat.pow-le-pow_right}
use Rattle.std.proofs.{lemmas.Bool.{cond_both, cases_lt, and_parts, ltb-true}, lemmas.Bool.Decides.nat_tests, lemmas.List.get_or_past}
use Rattle.std.proofs.{lemmas.List.length-replicate, lemmas.List.Elements.{All-nil, All-cons, All-append, All-replicate}}
use Rattle.std.specs.{Prelude.{codes, IfOk, nat_eq, nat_lt}, Int.{w32, byte_at, bytes_high_first, to_be_bytes}, List.{list_all, list_any}}
use Rattle.std.specs.{Char.is_ascii_digit, Option.option_eq, Str.Parse.digits_value, Net.Addr.{segments_of, IsIpv6Addr}}
use Rattle.std.specs.{Net.Grammar.{IsGroup, IsGroupsAfter, IsDotted, IsElided, IsColonHex}, Net.Reader.{whole_value, read_ipv6}}
use Rattle.url.specs.{declared.host.Host.Host, declared.scheme.SchemeType.TheVariants.SpecialNotFile, Input.is_empty, Scheme.default_port}
use Rattle.url.specs.Host.{is_forbidden_in_domain, ipv4_host, ipv6_host, ascii_domain, host_of_ascii, parse_bracketed, parse_special_host}
use Rattle.url.specs.{Host.{is_empty_host, IsHostOf}, Ipv4.{ends_in_a_number, parse_ipv4}, Parts.IsPortOf, Parser.Parsed}
use Rattle.url.specs.Parser.{without_default_port, parse_port}
use Rattle.url.proofs.{InputLemmas.is_empty_nonempty, HostLemmas.{none_from_list_any, ascii_domain-lower}}

-- ---- addresses

abbrev IsBelow : ℕ → ℕ → Type 0
IsBelow limit n = n < limit

-- where each element is below a limit, each read is
reads_below : (limit : ℕ) (xs : List ℕ) → 0 < limit → All (IsBelow limit) xs → (k : ℕ) → get_or xs k 0 < limit
reads_below limit xs positive below k =
    ⊎_elim (λ inside. below k 0 inside) (λ past. rw (get_or_past xs k 0 past) positive) (cases_lt k (length xs))

-- four hex digits at most
group_below : (group : List ℕ) (segment : ℕ) → IsGroup group segment → segment < 2 ^ 16
group_below group segment is =
    let value = digits_value-lt 16 group is.0.0.1 in
    let most : 16 ^ length group ≤ 16 ^ 4 = pow-le-pow_right (lit< tt) is.1 in
    omega (arith, value, most, is.0.1)

dotted_below : (text octets : List ℕ) → IsDotted text octets → All (IsBelow (2 ^ 16)) (segments_of octets)
dotted_below text octets is =
    let fit = is.fit in
    rw is.value (All-cons (IsBelow (2 ^ 16)) (is.a * 256 + is.b) ((is.c * 256 + is.d) ∷ []) (omega (arith, fit.0, fit.1))
    (All-cons (IsBelow (2 ^ 16)) (is.c * 256 + is.d) [] (omega (arith, fit.2, fit.3)) (All-nil _)))

groups_below : (ipv4 : Bool) (lead text segments : List ℕ) → IsGroupsAfter ipv4 lead text segments → All (IsBelow (2 ^ 16)) segments
groups_below ipv4 lead text [] is = All-nil _
groups_below ipv4 lead text (s ∷ segments) (inl (group, rest, spelled, is, more)) =
    All-cons (IsBelow (2 ^ 16)) s segments (group_below group s is) (groups_below ipv4 (codes ":") rest segments more)
groups_below ipv4 lead text (s ∷ segments) (inr (last, octets, allowed, spelled, dotted, value)) =
    subst (All (IsBelow (2 ^ 16))) (sym value) (dotted_below last octets dotted)

filled_valid : (head zeros tail : List ℕ) → length head + length tail < 8 → length zeros ≡ 8 - length head - length tail
    → All (IsBelow (2 ^ 16)) head → All (IsBelow (2 ^ 16)) zeros → All (IsBelow (2 ^ 16)) tail
    → (length (head ++ zeros ++ tail) ≡ 8) × All (IsBelow (2 ^ 16)) (head ++ zeros ++ tail)
filled_valid head zeros tail room filled heads none tails = (
  omega (arith, length-append head zeros, length-append (head ++ zeros) tail),
  All-append (IsBelow (2 ^ 16)) (head ++ zeros) tail (All-append (IsBelow (2 ^ 16)) head zeros heads none) tails,
)

elided_valid : (text segments : List ℕ) → IsElided text segments → (length segments ≡ 8) × All (IsBelow (2 ^ 16)) segments
elided_valid text segments is =
    rw is.value (filled_valid is.head _ is.tail is.room (length-replicate _ _) (groups_below false [] is.head_text is.head is.head_groups)
    (All-replicate (IsBelow (2 ^ 16)) _ 0 (lit< tt)) (groups_below true [] is.tail_text is.tail is.tail_groups))

colon_hex_valid : (text segments : List ℕ) → IsColonHex text segments → (length segments ≡ 8) × All (IsBelow (2 ^ 16)) segments
colon_hex_valid text segments (inl (groups, len)) = (len, groups_below true [] text segments groups)
colon_hex_valid text segments (inr elided) = elided_valid text segments elided

segments_valid : (text segments : List ℕ) → IsColonHex text segments → IsIpv6Addr (record { segments = segments })
segments_valid text segments is =
    let valid = colon_hex_valid text segments is in
    (valid.0, reads_below (2 ^ 16) segments (lit< tt) valid.1)

abbrev pub IsHost : Host (List ℕ) → Type 0
IsHost host = IsHostOf SpecialNotFile host × (is_empty_host host ≡ false)

read_valid : (text : List ℕ) (read : Option (List ℕ × List ℕ)) → read_ipv6 text ≡ read → IfOk (ipv6_host (whole_value read)) IsHost
read_valid text None is = tt
read_valid text (Some (segments, [])) is = (segments_valid _ segments (read_ipv6_sound text segments [] is).2, refl)
read_valid text (Some (segments, b ∷ rest)) is = rw (is_empty_nonempty (b ∷ rest) (omega arith)) tt

byte_below : (i n : ℕ) → byte_at i n < 2 ^ 8
byte_below zero n = mod-lt n (lit< tt)
byte_below (suc i) n = mod-lt (n / 256 ^ suc i) (lit< tt)

bytes_below : (k n : ℕ) → All (IsBelow (2 ^ 8)) (bytes_high_first k n)
bytes_below zero n = All-nil _
bytes_below (suc k) n = All-cons (IsBelow (2 ^ 8)) (byte_at k n) _ (byte_below k n) (bytes_below k n)

ipv4_valid : (bits : Option ℕ) → IfOk (ipv4_host bits) IsHost
ipv4_valid None = tt
ipv4_valid (Some bits) = ((refl, reads_below (2 ^ 8) (to_be_bytes w32 bits) (lit< tt) (bytes_below 4 bits)), refl)

-- ---- hosts

bracketed_valid : (bytes : List ℕ) → IfOk (parse_bracketed bytes) IsHost
unfolding parse_bracketed
bracketed_valid bytes = cond_both (get_or bytes (length bytes - 1) 0 == 93) _ _ (λ (r : Parsed (Host (List ℕ))). IfOk r IsHost)
    (λ _. read_valid _ _ refl) (λ _. tt)

domain_valid : (bytes : List ℕ) (ascii : Option (List ℕ)) → ascii_domain bytes ≡ ascii → IfOk (host_of_ascii ascii) IsHost
domain_valid bytes None is = tt
domain_valid bytes (Some domain) is =
    cond_both (is_empty domain) _ _ (λ (r : Parsed (Host (List ℕ))). IfOk r IsHost) (λ _. tt) λ nonempty.
    cond_both (list_any is_forbidden_in_domain domain) _ _ (λ (r : Parsed (Host (List ℕ))). IfOk r IsHost) (λ _. tt) λ none.
    cond_both (ends_in_a_number domain) _ _ (λ (r : Parsed (Host (List ℕ))). IfOk r IsHost) (λ _. ipv4_valid (parse_ipv4 domain)) λ named. (
      (
        record {
          allowed = none_from_list_any is_forbidden_in_domain domain none;
          lower = ascii_domain-lower bytes domain is;
          named = named;
        },
        grind (arith, nat_tests),
      ),
      nonempty,
    )

pub host_valid : (bytes : List ℕ) → IfOk (parse_special_host bytes) IsHost
unfolding parse_special_host
host_valid bytes = cond_both (get_or bytes 0 0 == 91) _ _ (λ (r : Parsed (Host (List ℕ))). IfOk r IsHost) (λ _. bracketed_valid bytes)
    (λ _. domain_valid _ _ refl)

-- ---- ports

same_port : (n : ℕ) (port : Option ℕ) → option_eq nat_eq (Some n) port ≡ false → port ≢ Some n
same_port n None other same = cc
same_port n (Some m) other same = grind (arith, nat_tests)

not_default : (scheme : List ℕ) (n : ℕ) → n < 2 ^ 16 → IsPortOf scheme (without_default_port scheme (Some n))
not_default scheme n fits = cond_both _ None (Some n) (IsPortOf scheme) (λ _. tt) (λ other. (fits, same_port n (default_port scheme) other))

pub port_valid : (scheme digits : List ℕ) → IfOk (parse_port scheme digits) (IsPortOf scheme)
unfolding parse_port
port_valid scheme digits =
    cond_both (is_empty digits) _ _ (λ (r : Parsed (Option ℕ)). IfOk r (IsPortOf scheme)) (λ _. tt) λ _.
    cond_both (list_all is_ascii_digit digits && nat_lt (digits_value 10 digits) (2 ^ 16)) _ _
    (λ (r : Parsed (Option ℕ)). IfOk r (IsPortOf scheme)) (λ fits. not_default scheme _ (ltb-true _ _ (and_parts _ _ fits).1)) (λ _. tt)
