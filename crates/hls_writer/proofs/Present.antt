-- Lines that may be missing.
use Rattle.std.proofs.Common.{◌≡◌, ℕ, List, [], ◌∷◌, ◌++◌, flat_map, get_or, Option, None, Some, option_map, option_to_list, refl, sym, ap}
use Rattle.std.proofs.{Common.{◌∙◌, append_assoc, replicate}, lemmas.List.append-nil, lemmas.List.Concat.flat_map-append}
use Rattle.hls_writer.specs.Lines.{WrittenLine, line_text, lines_text, discontinuity, program_date_time, duration}
use Rattle.hls_writer.specs.{Lines.{byte_range, uri}, Playlists.{Item, front_lines, item_lines, last_lines, map_line, rise}}
use Rattle.hls_writer.specs.{Rows.{written, all_written}, declared.line.Tag.Tag}

-- the text of a line, if it is there
abbrev pub there_text : Option Tag → List ℕ
there_text line = lines_text (option_to_list (option_map written line))

pub lines_text-all_written : (lines : List (Option Tag)) → lines_text (all_written lines) ≡ flat_map there_text lines
lines_text-all_written [] = refl
lines_text-all_written (line ∷ lines) =
    flat_map-append line_text (option_to_list (option_map written line)) (all_written lines)
    ∙ ap (λ t. there_text line ++ t) (lines_text-all_written lines)

-- a line that is there, as it was read from a list
pub there_text-some : (lines : List (Option Tag)) (i : ℕ) (item : Option Tag) (line : Tag) → item ≡ get_or lines i item → item ≡ Some line
    → line_text (written line) ≡ there_text (get_or lines i item)
there_text-some lines i item line at some = sym (ap there_text (sym at ∙ some) ∙ append-nil (line_text (written line)))

-- and a missing one
pub there_text-none : (lines : List (Option Tag)) (i : ℕ) (item : Option Tag) → item ≡ get_or lines i item → item ≡ None
    → [] ≡ there_text (get_or lines i item)
there_text-none lines i item at none = sym (ap there_text (sym at ∙ none))

-- ---- the lines of a segment, one text after another

abbrev front_options : (former : Option ℕ) → Item → List (Option WrittenLine)
front_options former item = map_line former item ∷ option_map program_date_time item.date ∷ []

abbrev last_options : (digits : ℕ) → Item → List (Option WrittenLine)
last_options digits item = Some (duration digits item.duration) ∷ option_map byte_range item.part.range ∷ Some (uri item.part.address) ∷ []

pub item_text : (digits : ℕ) (former : Option ℕ) (item : Item) →
    (lines_text (replicate (rise former item.section) discontinuity) ++ lines_text (front_lines former item))
    ++ lines_text (last_lines digits item) ≡ lines_text (item_lines digits former item)
item_text digits former item =
    let steps = replicate (rise former item.section) discontinuity in
    append_assoc (lines_text steps) (lines_text (front_lines former item)) (lines_text (last_lines digits item))
    ∙ ap (λ t. lines_text steps ++ t) (sym (flat_map-append line_text (front_lines former item) (last_lines digits item)))
    ∙ sym (flat_map-append line_text steps (front_lines former item ++ last_lines digits item))
    ∙ ap (λ lines. lines_text (steps ++ lines))
    (sym (flat_map-append option_to_list (front_options former item) (last_options digits item)))

pub front_text : (former : Option ℕ) (item : Item) → lines_text (option_to_list (map_line former item))
    ++ lines_text (option_to_list (option_map program_date_time item.date)) ≡ lines_text (front_lines former item)
front_text former item =
    let date = option_to_list (option_map program_date_time item.date) in
    ap (λ lines. lines_text (option_to_list (map_line former item)) ++ lines_text lines) (sym (append-nil date))
    ∙ sym (flat_map-append line_text (option_to_list (map_line former item)) (date ++ []))

pub last_text : (digits : ℕ) (item : Item) →
    (line_text (duration digits item.duration) ++ lines_text (option_to_list (option_map byte_range item.part.range)))
    ++ line_text (uri item.part.address) ≡ lines_text (last_lines digits item)
last_text digits item =
    let range = option_to_list (option_map byte_range item.part.range) in
    append_assoc (line_text (duration digits item.duration)) (lines_text range) (line_text (uri item.part.address))
    ∙ ap (λ t. line_text (duration digits item.duration) ++ t) (ap (λ t. lines_text range ++ t) (sym (append-nil _))
    ∙ sym (flat_map-append line_text range (uri item.part.address ∷ [])))
