-- The commands and their parameters.
use Rattle.std.specs.Prelude.{true, codes, bytes_eq, List, [], ◌∷◌, fold, if◌then◌else◌, Option, Some, None}
use Rattle.clap.specs.Words.{App, Kinds, Row, Rule, Text, fault_of, matches_of, new_app, new_rule, with_rule}
use Rattle.bridge_jobs.specs.{declared.verb.Verb.Verb, declared.verb.Verb.TheVariants.{Hls, Dash, Follow, Show, Check, Reload, Make}}
use Rattle.bridge_jobs.specs.declared.verb.Verb.TheVariants.{HlsIndex, DashTimes, Agree, FollowHls, FollowHlsTimes, Compare}

-- a positional word, which is required
abbrev pub positional : Text → Rule
positional name = record (new_rule name) { required = true }

-- `--name=value` or `--name value`
abbrev pub option : Text → Rule
option name = record (new_rule name) { long = Some name }

abbrev pub required_option : Text → Rule
required_option name = record (option name) { required = true }

-- the parameters of each command
abbrev pub parameters_of : Verb → List Rule
parameters_of Hls = positional (codes "mpd") ∷ required_option (codes "base") ∷ option (codes "now") ∷ option (codes "out")
    ∷ option (codes "digits") ∷ option (codes "addresses") ∷ option (codes "form") ∷ []
parameters_of Dash = positional (codes "master") ∷ required_option (codes "base") ∷ option (codes "out") ∷ option (codes "form") ∷ []
parameters_of Follow = positional (codes "name") ∷ required_option (codes "base") ∷ option (codes "out") ∷ option (codes "digits")
    ∷ option (codes "addresses") ∷ option (codes "form") ∷ []
parameters_of Show = positional (codes "file") ∷ required_option (codes "base") ∷ option (codes "now") ∷ option (codes "digits") ∷ []
parameters_of Check = positional (codes "mpd") ∷ positional (codes "master") ∷ required_option (codes "base") ∷ option (codes "digits") ∷ []
parameters_of Reload = positional (codes "old") ∷ positional (codes "new") ∷ required_option (codes "base") ∷ []
parameters_of Make = required_option (codes "seed") ∷ option (codes "out") ∷ option (codes "digits") ∷ []
parameters_of HlsIndex = positional (codes "mpd") ∷ required_option (codes "base") ∷ option (codes "out") ∷ option (codes "digits")
    ∷ option (codes "addresses") ∷ option (codes "form") ∷ []
parameters_of DashTimes = positional (codes "master") ∷ required_option (codes "base") ∷ option (codes "out") ∷ option (codes "form") ∷ []
parameters_of Agree = positional (codes "mpd") ∷ required_option (codes "base") ∷ []
parameters_of FollowHls = positional (codes "master") ∷ required_option (codes "base") ∷ option (codes "out") ∷ option (codes "form") ∷ []
parameters_of FollowHlsTimes = positional (codes "master") ∷ required_option (codes "base") ∷ option (codes "out")
    ∷ option (codes "form") ∷ []
parameters_of Compare = positional (codes "mpd") ∷ positional (codes "master") ∷ required_option (codes "base") ∷ option (codes "now")
    ∷ option (codes "digits") ∷ option (codes "within") ∷ option (codes "all") ∷ []

-- the command's word
abbrev pub word_of : Verb → Text
word_of Hls = codes "hls"
word_of Dash = codes "dash"
word_of Follow = codes "follow"
word_of Show = codes "show"
word_of Check = codes "check"
word_of Reload = codes "reload"
word_of Make = codes "make"
word_of HlsIndex = codes "hls-index"
word_of DashTimes = codes "dash-times"
word_of Agree = codes "agree"
word_of FollowHls = codes "follow-hls"
word_of FollowHlsTimes = codes "follow-hls-times"
word_of Compare = codes "compare"

-- the command of a word
abbrev pub verb_of : Text → Option Verb
verb_of word =
    if bytes_eq word (codes "hls") then Some Hls
    else if bytes_eq word (codes "dash") then Some Dash
    else if bytes_eq word (codes "follow") then Some Follow
    else if bytes_eq word (codes "show") then Some Show
    else if bytes_eq word (codes "check") then Some Check
    else if bytes_eq word (codes "reload") then Some Reload
    else if bytes_eq word (codes "make") then Some Make
    else if bytes_eq word (codes "hls-index") then Some HlsIndex
    else if bytes_eq word (codes "dash-times") then Some DashTimes
    else if bytes_eq word (codes "agree") then Some Agree
    else if bytes_eq word (codes "follow-hls") then Some FollowHls
    else if bytes_eq word (codes "follow-hls-times") then Some FollowHlsTimes
    else if bytes_eq word (codes "compare") then Some Compare
    else None

-- the simple command of `clap` with these parameters
abbrev pub app_with : Text → List Rule → App
app_with word parameters = fold with_rule (new_app word) parameters

abbrev pub app_of_verb : Verb → App
app_of_verb verb = app_with (word_of verb) (parameters_of verb)

-- the matches, where nothing is invalid
abbrev pub unless_at_fault : Kinds → List Row → Option (List Row)
unless_at_fault [] rows = Some rows
unless_at_fault (kind ∷ kinds) rows = None

-- what the words, the first of which is the command's, give its parameters, where they are valid
unfoldable pub values_of : Verb → List Text → Option (List Row)
values_of verb words = unless_at_fault (fault_of (app_of_verb verb) words) (matches_of (app_of_verb verb) words)
