use Rattle.url_parts.proofs.spelling.Playlist.front.Goals as goal
use Rattle.std.proofs.Common.{◌≡◌, ◌++◌, ap, sym, subst, ◌∙◌, arith, length}
use Rattle.url_parts.specs.Spelling.{PlaylistPlace, ReachesNames}
use Rattle.url_parts.proofs.Spellings.{has_bytes, names_spelled, outside_stays}

pub returns-in_default : goal.returns-in_default
returns-in_default c name named fits =
    let folder : c.as_str-base.result.now ≡ c.args.self.now.folder =
    c.as_str-base.ensures.text ∙ ap (λ (p : PlaylistPlace). p.folder) c.self.view_is in
    outside_stays c.args.self.now c.args.folder.now (rw folder at c.in_default.ensures.cases)
    (omega (arith, c.if-folder-base.false, ap length folder)) name
    ∙ ap (λ t. t ++ name) (sym c.in_ok-of_folder.ensures)

pub returns : goal.returns
returns c name named fits =
    let place = c.args.self.now in
    let inner = c.in-Some.inner.now in
    let folder : c.as_str-base.result.now ≡ place.folder = c.as_str-base.ensures.text ∙ ap (λ (p : PlaylistPlace). p.folder) c.self.view_is in
    let up : c.as_str-up.result.now ≡ place.up = c.as_str-up.ensures ∙ ap (λ (p : PlaylistPlace). p.up) c.self.view_is in
    let whole : c.args.folder.now ≡ place.folder ++ inner =
    (rw folder at c.in-Some.ensures.cases.1.1) ∙ ap (λ t. place.folder ++ t) (sym c.in-Some.ensures.cases.2) in
    let text : c.from.result ≡ place.up ++ inner = c.from.ensures ∙ c.in_ok-text.ensures.ok ∙ simp up in
    let reaches = subst ReachesNames c.self.view_is (c.self.invariant c.if-not-self.false) in
    let inside = c.is_inner.ensures c.if-not-is_inner.false in
    names_spelled place c.args.folder.now inner reaches whole inside (omega (arith, c.if-folder.false)) name named
    (omega (arith, fits, c.saturating_sub.ensures, has_bytes name named)) ∙ ap (λ t. t ++ name) (sym text)
