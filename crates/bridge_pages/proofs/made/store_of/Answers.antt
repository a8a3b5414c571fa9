use Rattle.std.proofs.Common.{◌≡◌, ◌+◌, ◌∷◌, drop, ap, ap₂, sym, ◌∙◌}
use Rattle.std.proofs.lemmas.List.{at_drop_more}
use Rattle.bridge_io.specs.Outside.{put}
use Rattle.bridge_pages.specs.Files.{files_at}
use Rattle.bridge_pages.specs.Runs.{with_sources}
use Rattle.bridge_pages.proofs.made.store_of.Goals as goal

pub loop-source-init : goal.loop-source-init
loop-source-init c = ap (λ files. with_sources c.args.sources.now files) c.new-store.ensures

pub loop-source-preserved : goal.loop-source-preserved
loop-source-preserved c =
    let sources = c.args.sources.now in
    let i = c.loop-source.source-index in
    let source = c.source-item.result in
    let old = files_at c.loop-source.store in
    let one : with_sources (drop i sources) old ≡ with_sources (source ∷ drop (i + 1) sources) old =
    at_drop_more (λ left. with_sources left old) sources i source c.loop-source-test.true
    ∙ ap (λ x. with_sources (x ∷ drop (i + 1) sources) old) (sym c.source-item.is) in
    let sets : files_at c.put.new.self ≡ put source.name source.bytes old =
    c.in_ok-put.ensures.ok ∙ ap₂ (λ name bytes. put name bytes old) c.in_ok-name_like.ensures c.in_ok-bytes_like.ensures in
    ap (λ files. with_sources (drop (i + 1) sources) files) sets ∙ sym one ∙ c.loop-source.invariant
