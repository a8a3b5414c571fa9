use Rattle.hls_writer.proofs.items.MediaItem.push_to.Goals as goal
use Rattle.std.proofs.Common.{◌≡◌, ◌∙◌, [], List, ℕ, refl, ap}
use Rattle.url_parts.specs.Spelling.{spelled}
use Rattle.bridge_io.proofs.Adding.{adds_none, adds_same, adds_wanting}
use Rattle.hls_writer.specs.{Items.item_of, Lines.lines_text, Playlists.{Item, item_lines}, Spelled.spelled_item}

pub returns-in_err-address : goal.returns-in_err-address
returns-in_err-address g c = adds_wanting {done = []} _ _ c.from_residual.result refl c.from_residual.ensures.1 (adds_none _)

pub returns : goal.returns
returns g c =
    let item = spelled_item c.args.spelling.now (item_of c.args.self.now) in
    adds_same (ap (λ (text : List ℕ). lines_text (item_lines c.args.digits c.args.former
    (record item { part = record { address = text; range = item.part.range } }))) (c.in_ok-address.ensures
    ∙ ap (spelled c.args.spelling.now) c.as_str.ensures.text)) c.push_to.ensures
