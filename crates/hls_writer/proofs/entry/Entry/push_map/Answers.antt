use Rattle.hls_writer.proofs.entry.Entry.push_map.Goals as goal
use Rattle.std.proofs.{Common.{◌≡◌, [], Some, option_to_list, refl, inl, inr, sym, ap, ◌∙◌}, lemmas.{Bool.cases_Bool, List.append-nil}}
use Rattle.bridge_io.proofs.Adding.{adds_none, adds_same, adds_wanting}
use Rattle.url_parts.specs.Spelling.{spelled}
use Rattle.hls_writer.specs.{Lines.{initialization, line_text, lines_text}, Playlists.{begins_section, map_line}, Rows.entry_item}

pub returns-in_err-address : goal.returns-in_err-address
returns-in_err-address g c = adds_wanting {done = []} _ _ c.from_residual.result refl c.from_residual.ensures.1 (adds_none _)

pub returns : goal.returns
returns g c =
    let item = entry_item c.args.self.now in
    let written = c.in_ok-address.ensures ∙ ap (spelled c.args.self.now.spelling.now) c.as_str.ensures.text in
    let map = ap (λ text. line_text (initialization (record { address = text; range = c.args.self.now.map.now.range }))) written in
    let begins : map_line c.args.former item ≡ Some (initialization item.map) =
    elim (cases_Bool (begins_section c.args.former c.args.self.now.section)) [
      | inl begins ↦ rw begins refl
      | inr other ↦ absurd (let never = rw (c.begins_section.ensures, other) at c.if-not-begins_section.false in cc)
    ] in
    adds_same (map ∙ sym (append-nil (line_text (initialization item.map))) ∙ ap (λ line. lines_text (option_to_list line)) (sym begins))
    c.push_to.ensures
