-- The result of a run in memory over the files that were read, and its pages.
use Rattle.bridge_courses.specs.declared.status.Status.TheVariants as status
use Rattle.bridge_courses.specs.declared.status.Verdict.TheVariants as verdict
use Rattle.bridge_pages.specs.declared.verb.Verb.TheVariants as verb
use Rattle.std.specs.Prelude.{ℕ, Bool, true, false, List, [], ◌∷◌, ◌++◌, codes, nat_eq, if◌then◌else◌, Option, Some, None}
use Rattle.std.specs.List.{ends_with}
use Rattle.bridge_io.specs.{Outside.{Files, put}, InOrder.put_all}
use Rattle.bridge_courses.specs.{declared.status.{Status.Status, Verdict.Verdict}, Courses.{Course, files_of, report_of}}
use Rattle.bridge_core.specs.Courses.{course_of}
use Rattle.page_server.specs.declared.maker.{Manifest.Manifest, SourceFile.SourceFile}
use Rattle.page_server.specs.Pages.{Page, Text, Missing, Refused}
use Rattle.bridge_pages.specs.declared.verb.Verb.{Verb}

-- ---- words

-- a playlist, by the end of its name, is a master playlist whose MPD is made
abbrev pub verb_of : (indexed : Bool) → (manifest : List ℕ) → Verb
verb_of indexed manifest =
    if ends_with nat_eq manifest (codes ".m3u8") then verb.Dash else (if indexed then verb.HlsIndex else verb.Hls)

abbrev pub word_of : Verb → List ℕ
word_of verb.Hls = codes "hls"
word_of verb.HlsIndex = codes "hls-index"
word_of verb.Dash = codes "dash"

-- a time is for live MPDs
abbrev pub with_now : Verb → Option (List ℕ) → List (List ℕ) → List (List ℕ)
with_now verb.Hls (Some now) words = words ++ (codes "--now=" ++ now) ∷ []
with_now verb.Hls None words = words
with_now verb.HlsIndex now words = words
with_now verb.Dash now words = words

-- the files are written to a folder of the manifest's name
abbrev pub words_by : Verb → (base : List ℕ) → (now : Option (List ℕ)) → (manifest : List ℕ) → List (List ℕ)
words_by verb base now manifest =
    with_now verb now (word_of verb ∷ manifest ∷ (codes "--base=" ++ base) ∷ (codes "--out=" ++ manifest) ∷ [])

-- ---- files

abbrev pub no_files : Files
no_files name = None

-- the files that were read, added one after another
abbrev pub with_sources : List SourceFile → Files → Files
with_sources [] files = files
with_sources (source ∷ sources) files = with_sources sources (put source.name source.bytes files)

abbrev pub files_read : List SourceFile → Files
files_read sources = with_sources sources no_files

-- ---- pages

abbrev pub file_page : Option (List ℕ) → Page
file_page (Some text) = Text text
file_page None = Missing

-- for a successful run a file that it wrote, and for any other its report
abbrev pub page_left : (done : Bool) → Files → (report file : List ℕ) → Page
page_left true files report file = file_page (files file)
page_left false files report file = Refused report

abbrev pub is_done : Verdict → Bool
is_done verdict.Done = true
is_done verdict.Refused = false
is_done verdict.Words = false
is_done verdict.Differ = false

-- the same by the status of the run
abbrev pub is_done_by : Status → Bool
is_done_by status.Done = true
is_done_by other = false

abbrev pub page_of_course : Course → Files → (file : List ℕ) → Page
page_of_course course files file = page_left (is_done course.end.verdict) (put_all (files_of course) files) (report_of course) file

-- where the files are known, so is the course
abbrev pub page_of_known : Option Course → Files → (file : List ℕ) → Page
page_of_known (Some course) files file = page_of_course course files file
page_of_known None files file = Missing

-- the page of the run of a command line over the files that were read, without input
unfoldable pub page_of_run : (words : List (List ℕ)) → List SourceFile → (file : List ℕ) → Page
page_of_run words sources file = page_of_known (course_of words (Some (files_read sources)) (Some [])) (files_read sources) file

-- for a manifest that was read
abbrev pub page_of_manifest : (indexed : Bool) → (now : Option (List ℕ)) → Manifest → (file : List ℕ) → Page
page_of_manifest indexed now manifest file =
    page_of_run (words_by (verb_of indexed manifest.name) manifest.base now manifest.name) manifest.files file
