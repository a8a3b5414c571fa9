-- How a command line is parsed, in plain words.
use Rattle.std.specs.Prelude.{◌≡◌, ◌==◌, ◌&&◌, ◌||◌, ℕ, Bool, true, false, not, is_some, codes, bytes_eq, List, [], ◌∷◌, ◌++◌, map, drop}
use Rattle.std.specs.{Prelude.{find, if◌then◌else◌, Option, Some, None, option_map}, List.{All, after_first, before_first, list_all}}
use Rattle.std.specs.{List.list_any, Str.IsUtf8}
use Rattle.clap.specs.{Words.{Row, Text, first_of}, declared.builder.value_parser.Reading.TheVariants.AsWritten}
use Rattle.clap.specs.declared.parser.matches.ValueSource.TheVariants.{CommandLine}
use Rattle.bridge_jobs.specs.{Jobs.{◌>>=◌, first_verb, job_by, job_of}, declared.jobs.Job.Job, declared.verb.Verb.Verb}
use Rattle.bridge_jobs.specs.declared.verb.Verb.TheVariants.{Hls, Dash, Follow, Show, Check, Reload, Make, HlsIndex, DashTimes, Agree}
use Rattle.bridge_jobs.specs.declared.verb.Verb.TheVariants.{FollowHls, FollowHlsTimes, Compare}

-- ---- what a command takes

-- an option by its name, and whether it is required
pub record Choice : Type 0 where
  pub name : Text
  pub is_required : Bool

abbrev pub required : Text → Choice
required name = record { name = name; is_required = true }

abbrev pub optional : Text → Choice
optional name = record { name = name; is_required = false }

-- the names of the positional words, all of which are required, and the options
pub record Syntax : Type 0 where
  pub places : List Text
  pub options : List Choice

abbrev pub takes : List Text → List Choice → Syntax
takes places options = record { places = places; options = options }

abbrev pub syntax_of : Verb → Syntax
syntax_of Hls = takes (codes "mpd" ∷ []) (required (codes "base") ∷ optional (codes "now") ∷ optional (codes "out")
    ∷ optional (codes "digits") ∷ optional (codes "addresses") ∷ optional (codes "form") ∷ [])
syntax_of Dash = takes (codes "master" ∷ []) (required (codes "base") ∷ optional (codes "out") ∷ optional (codes "form") ∷ [])
syntax_of Follow = takes (codes "name" ∷ []) (required (codes "base") ∷ optional (codes "out") ∷ optional (codes "digits")
    ∷ optional (codes "addresses") ∷ optional (codes "form") ∷ [])
syntax_of Show = takes (codes "file" ∷ []) (required (codes "base") ∷ optional (codes "now") ∷ optional (codes "digits") ∷ [])
syntax_of Check = takes (codes "mpd" ∷ codes "master" ∷ []) (required (codes "base") ∷ optional (codes "digits") ∷ [])
syntax_of Reload = takes (codes "old" ∷ codes "new" ∷ []) (required (codes "base") ∷ [])
syntax_of Make = takes [] (required (codes "seed") ∷ optional (codes "out") ∷ optional (codes "digits") ∷ [])
syntax_of HlsIndex = takes (codes "mpd" ∷ []) (required (codes "base") ∷ optional (codes "out") ∷ optional (codes "digits")
    ∷ optional (codes "addresses") ∷ optional (codes "form") ∷ [])
syntax_of DashTimes = takes (codes "master" ∷ []) (required (codes "base") ∷ optional (codes "out") ∷ optional (codes "form") ∷ [])
syntax_of Agree = takes (codes "mpd" ∷ []) (required (codes "base") ∷ [])
syntax_of FollowHls = takes (codes "master" ∷ []) (required (codes "base") ∷ optional (codes "out") ∷ optional (codes "form") ∷ [])
syntax_of FollowHlsTimes = takes (codes "master" ∷ []) (required (codes "base") ∷ optional (codes "out") ∷ optional (codes "form") ∷ [])
syntax_of Compare = takes (codes "mpd" ∷ codes "master" ∷ []) (required (codes "base") ∷ optional (codes "now") ∷ optional (codes "digits")
    ∷ optional (codes "within") ∷ optional (codes "all") ∷ [])

abbrev pub is_option : List Choice → Text → Bool
is_option options name = list_any (λ o. bytes_eq o.name name) options

-- ---- one word

-- what a word looks like
pub data Look : Type 0 where
  -- `--`
  hyphens : Look
  -- `--name` or `--name=value`, whatever the value
  named : Text → Option Text → Look
  -- `-x`, whatever follows
  letters : Look
  -- any other word: it doesn't begin with a hyphen, or is `-` alone
  plain : Look

abbrev pub is_equals : ℕ → Bool
is_equals b = b == 61

-- what is before the first `=`, and what is after it
abbrev pub named_by : Text → Look
named_by text = named (before_first is_equals text) (if list_any is_equals text then Some (after_first is_equals text) else None)

abbrev pub look_behind_two : Text → Look
look_behind_two [] = hyphens
look_behind_two (b ∷ rest) = named_by (b ∷ rest)

abbrev pub look_behind_one : Text → Look
look_behind_one [] = plain
look_behind_one (b ∷ rest) = if b == 45 then look_behind_two rest else letters

abbrev pub look_of : Text → Look
look_of [] = plain
look_of (b ∷ rest) = if b == 45 then look_behind_one rest else plain

-- ---- words in turn

-- a name and its value
abbrev pub Value : Type 0
Value = Text × Text

-- the state of parsing
pub record Reading : Type 0 where
  -- the values so far, in order
  pub given : List Value
  -- the positional names that have no word yet
  pub places : List Text
  -- the option whose value is the next word
  pub waiting : Option Text
  -- after `--`
  pub is_rest : Bool

abbrev pub start : List Text → Reading
start places = record { given = []; places = places; waiting = None; is_rest = false }

abbrev pub give : Text → Text → Reading → Reading
give name value r = record r { given = r.given ++ (name, value) ∷ []; waiting = None }

-- a word is the next positional one; where none is left it is a usage error
abbrev pub at_place : List Text → Text → Reading → Option Reading
at_place [] word r = None
at_place (name ∷ places) word r = Some (give name word (record r { places = places }))

-- an option has its value after `=`, or as the next word; one that the command doesn't have is a usage error
abbrev pub by_name : Bool → Text → Option Text → Reading → Option Reading
by_name false name value r = None
by_name true name (Some value) r = Some (give name value r)
by_name true name None r = Some (record r { waiting = Some name })

-- a word where no option waits for its value
abbrev pub by_look : List Choice → Look → Text → Reading → Option Reading
by_look options hyphens word r = Some (record r { is_rest = true })
by_look options (named name value) word r = by_name (is_option options name) name value r
by_look options letters word r = None
by_look options plain word r = at_place r.places word r

-- the next word is the value of the waiting option, where it is plain
abbrev pub as_value : Look → Text → Text → Reading → Option Reading
as_value plain name word r = Some (give name word r)
as_value _ name word r = None

-- after `--` each word is positional, whatever it looks like
abbrev pub read_by : List Choice → Bool → Option Text → Text → Reading → Option Reading
read_by options true waiting word r = at_place r.places word r
read_by options false (Some name) word r = as_value (look_of word) name word r
read_by options false None word r = by_look options (look_of word) word r

abbrev pub read_from : List Choice → List Text → Reading → Option Reading
read_from options [] r = Some r
read_from options (word ∷ words) r = read_by options r.is_rest r.waiting word r >>= read_from options words

-- ---- all words

abbrev pub is_given : Text → List Value → Bool
is_given name given = list_any (λ v. bytes_eq v.0 name) given

-- some name has two values
abbrev pub has_repeat : List Value → Bool
has_repeat [] = false
has_repeat (v ∷ given) = is_given v.0 given || has_repeat given

-- no option waits for its value, no name has two values, and each required one has one
abbrev pub is_whole : Syntax → Reading → Bool
is_whole s r =
    not (is_some r.waiting) && not (has_repeat r.given)
    && (list_all (λ name. is_given name r.given) s.places && list_all (λ o. not o.is_required || is_given o.name r.given) s.options)

abbrev pub given_of : Syntax → Reading → Option (List Value)
given_of s r = if is_whole s r then Some r.given else None

-- the values of the words after the command's own, where they are valid
abbrev pub given_by : Syntax → List Text → Option (List Value)
given_by s words = read_from s.options words (start s.places) >>= given_of s

-- the value of a name
abbrev pub value_of : Text → List Value → Option Text
value_of name given = option_map (λ v. v.1) (find (λ v. bytes_eq v.0 name) given)

-- ---- the law

-- a name and its value, as `clap` writes them
abbrev pub row_of : Value → Row
row_of v = record {
  id = v.0;
  values = v.1 ∷ [];
  count = None;
  source = Some CommandLine;
  reading = AsWritten;
}

-- the first word's command, with the values of the rest
abbrev pub read_job : List Text → Option Job
read_job words = do
  command ← first_verb words
  given ← given_by (syntax_of command) (drop 1 words)
  job_by command (map row_of given)

-- Words that are text are parsed as this definition says.
pub record CommandLinesAreRead : Type 0 where
  pub jobs : (words : List Text) → All IsUtf8 words → job_of words ≡ read_job words
  pub values : (name : Text) (given : List Value) → first_of name (map row_of given) ≡ value_of name given
