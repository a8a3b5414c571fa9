use Rattle.std.proofs.Common.{◌≡◌, [], Some, refl, ap, ◌∙◌}
use Rattle.bridge_core.specs.Courses.{course_of}
use Rattle.bridge_pages.specs.{Files.{files_at, report_at}, Runs.{page_left, page_of_known, page_of_run}}
use Rattle.bridge_pages.proofs.{Ended.{known_page, left_page, never_rose}, Told.course_is_known}
use Rattle.bridge_pages.proofs.made.Made.of.Goals as goal

pub returns-in_default : goal.returns-in_default
unfolding page_of_run
returns-in_default g c = λ file.
    let words = c.args.words.now in
    let first = files_at c.in_ok-store.store in
    let last = files_at c.bridge.new.store in
    let report = report_at c.bridge.new.report in
    let made : page_left c.is_done.result last report file ≡ page_of_known (course_of words (Some first) (Some [])) first file =
    known_page _ _ first file (course_is_known words first []) (λ course known.
    rw c.is_done.ensures (left_page c.a_verdict_keeps_the_steps.ensures c.an_execution_tells_its_steps.ensures.verdict course
    c.bridge.result _ _ first last report file
    (record { first_files = refl; last_files = refl; empty = ap Some c.new-report.ensures; told = refl; calm = never_rose })
    (c.bridge.ensures.run course known)
    (c.bridge.ensures.complete course known
    (record { input = never_rose; reads = never_rose; writes = never_rose; report = never_rose }))
    c.in_default.not-Memory)) in
    made ∙ ap (λ files. page_of_known (course_of words (Some files) (Some [])) files file) c.in_ok-store.ensures
