use Rattle.url_parts.proofs.spelling.Playlist.rest_of.Goals as goal
use Rattle.std.proofs.Common.{◌≡◌, ◌++◌, ap, sym, subst, ◌∙◌, arith}
use Rattle.bridge_io.specs.Names.{is_name}
use Rattle.std.specs.Option.{option_copied}
use Rattle.url_parts.specs.Spelling.{PlaylistPlace, ReachesNames}
use Rattle.url_parts.proofs.Spellings.{copied_then_some, rest_inside, rest_named, rest_outside}

pub returns-in_default : goal.returns-in_default
returns-in_default c =
    let folder = c.as_str.ensures.text ∙ ap (λ (p : PlaylistPlace). p.folder) c.self.view_is in
    rest_outside c.args.self.now c.args.address.now (rw folder at c.in_default.ensures.cases)

pub returns-then-is_name : goal.returns-then-is_name
returns-then-is_name c =
    let folder = c.as_str.ensures.text ∙ ap (λ (p : PlaylistPlace). p.folder) c.self.view_is in
    let whole = (rw folder at c.in-Some.ensures.cases.1.1) ∙ ap (λ t. c.args.self.now.folder ++ t) (sym c.in-Some.ensures.cases.2) in
    let named = ap is_name (sym c.as_bytes.ensures.value) ∙ sym c.is_name.ensures ∙ c.if-is_name.true in
    rest_named c.args.self.now c.args.address.now c.in-Some.rest.now (subst ReachesNames c.self.view_is (c.self.invariant c.if-self.true))
    whole named (omega (arith, c.if-address-le-MAX_LEN.true))

pub returns : goal.returns
returns c =
    let place = c.args.self.now in
    let rest = c.in-Some.rest.now in
    let folder : c.as_str.result.now ≡ place.folder = c.as_str.ensures.text ∙ ap (λ (p : PlaylistPlace). p.folder) c.self.view_is in
    let up : c.as_str-up.result.now ≡ place.up = c.as_str-up.ensures ∙ ap (λ (p : PlaylistPlace). p.up) c.self.view_is in
    let url : c.self.inside.url ≡ place.url = ap (λ (p : PlaylistPlace). p.url) c.self.view_is in
    let whole = (rw folder at c.in-Some.ensures.cases.1.1) ∙ ap (λ t. place.folder ++ t) (sym c.in-Some.ensures.cases.2) in
    let spelled : c.as_str-2.result.now ≡ place.up ++ rest = c.as_str-2.ensures.value ∙ c.in_ok-reference.ensures.ok ∙ simp up in
    ap option_copied c.then_some.ensures ∙ copied_then_some c.in_ok-gives.field-0 c.in-Some.rest
    ∙ rest_inside place c.args.address.now c.as_str-2.result.now rest c.in_ok-gives.field-0 whole spelled (rw url at c.in_ok-gives.ensures)
