use Rattle.mpd_text.proofs.read.tree_from_bytes.Goals as goal
use Rattle.std.proofs.Common.{◌≡◌, Ok, Err, IfSome, sym, ap, subst, ◌∙◌}
use Rattle.std.specs.String.{string_bytes}
use Rattle.mpd_tree.specs.{Faults.refusal, Meaning.reading_of, Nodes.root_in}
use Rattle.mpd_text.proofs.TreeReading.{given_fault, given_tree, passed_on, refused_before, spelled}

pub returns-in_err-source : goal.returns-in_err-source
returns-in_err-source c = let given = refused_before c.args.bytes c.from_residual.result c.in_err-source.field-0.0
    c.from_residual.ensures.1 c.in_err-source.ensures.fault in record {
      reading = given;
      tree = given_tree c.args.bytes c.from_residual.result given;
      fault = given_fault c.args.bytes c.from_residual.result given;
    }

pub returns-in_err-rows : goal.returns-in_err-rows
returns-in_err-rows c =
    let f = c.in_err-rows.field-0.0 in
    let given = passed_on c.from_residual-in_err-rows.result f (reading_of c.args.bytes) c.from_residual-in_err-rows.ensures.1
    (subst (λ text. IfSome (refusal f) (λ g. reading_of text ≡ Err g)) (c.as_str.ensures.value ∙ c.in_ok-source.ensures.text)
    c.in_err-rows.ensures.reading) in
    record {
      reading = given;
      tree = given_tree c.args.bytes c.from_residual-in_err-rows.result given;
      fault = given_fault c.args.bytes c.from_residual-in_err-rows.result given;
    }

pub returns : goal.returns
returns c =
    let text : c.as_str.result.now ≡ string_bytes c.in_ok-source.source = c.as_str.ensures.value in
    let read : reading_of c.args.bytes ≡ Ok (root_in (string_bytes c.in_ok-source.source) c.in_ok-rows.rows) =
    ap reading_of (sym (text ∙ c.in_ok-source.ensures.text)) ∙ c.in_ok-rows.ensures.reading
    ∙ ap (λ t. Ok (root_in t c.in_ok-rows.rows)) text in
    let given = read ∙ ap Ok (sym c.in_ok-tree.ensures.root) in
    record { reading = given; tree = spelled c.args.bytes _ given; fault = tt }
