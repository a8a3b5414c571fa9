-- What `clap` reads of words, and the plain reading.
use Rattle.clap.specs.Takes as takes
use Rattle.std.proofs.Common.{◌≡◌, ◌∙◌, ◌==◌, ◌+◌, ◌≤◌, ◌&&◌, ◌||◌, ℕ, suc, min, drop, nat_lt, Bool, true, false, not, List, [], ◌∷◌, ◌++◌}
use Rattle.std.proofs.Common.{map, length, Option, Some, None, is_some, codes, inl, inr, ◌⊎◌, refl, sym, ap, subst, arith, if◌then◌else◌}
use Rattle.std.proofs.{Common.{true≢false, append_assoc, length-append}, lemmas.Str.{chars_past_char, encodes-chars}, lemmas.Bool.and_right}
use Rattle.std.proofs.{lemmas.Bool.{eq-eqb, eqb-true, ne_eqb}, lemmas.List.{append-nil, map-append}, lemmas.List.Folds.list_any-append}
use Rattle.std.proofs.{lemmas.Slice.Eq.bytes_eq-Decides, lemmas.Bool.Decides.same_from_decides}
use Rattle.std.specs.{Option.{IfSome, option_map, option_map_or}, Char.encode_utf8, Str.{IsUtf8, bytes_eq, chars, encode_utf8_all}}
use Rattle.std.specs.List.{All, fold, list_all, list_any}
use Rattle.clap.specs.Faults.{built_fault, bundle_fault, entered_fault, level_fault, check_fault, flag_word_fault, flags_fault, react_fault}
use Rattle.clap.specs.Faults.{short_fault, step_fault, default_fault, defaults_fault, given_default_fault, long_fault, positional_fault}
use Rattle.clap.specs.{Faults.{settle_fault, turn_fault, use_fault, walk_fault}, Kinds.{Kinds, or_else}, Lexer.{long_of, short_of}}
use Rattle.clap.specs.{Lexer.usize_max, Walk.{Held, Row, Rule, Waiting, Walk, arg_by_id, arg_by_index, arg_by_long, arg_by_short, at_row}}
use Rattle.clap.specs.Walk.{finished, has_long, has_row, has_short, idle, option, settled, after_flag, after_step, is_pending, nothing_held}
use Rattle.clap.specs.Walk.{option_word, rows_after, walk, long_met, long_or_other, short_or_plain, positional, pushed, reacted, Step}
use Rattle.clap.specs.Walk.{trailing, settled_rows, subcommand_met, more_values, to_positional, used, walked, with_default, with_values}
use Rattle.clap.specs.{Simple.{App, Shape, argument_words, built, entered, names_of, filled, help_rule, new_rule, new_shape}, Words.Text}
use Rattle.clap.specs.{Words.first_of, declared.builder.action.ArgAction.TheVariants.Set}
use Rattle.clap.specs.{declared.builder.value_parser.ValueParser.TheVariants.String, declared.error.kind.ErrorKind.ErrorKind}
use Rattle.clap.specs.declared.error.kind.ErrorKind.TheVariants.{ArgumentConflict, DisplayHelp, InvalidValue, MissingRequiredArgument}
use Rattle.clap.specs.declared.error.kind.ErrorKind.TheVariants.{TooManyValues, UnknownArgument}
use Rattle.clap.specs.declared.parser.matches.ValueSource.TheVariants.{CommandLine}
use Rattle.bridge_jobs.specs.{Jobs.{◌>>=◌, job_by, job_of}, Verbs.{app_of_verb, unless_at_fault, values_of, verb_of, word_of}}
use Rattle.bridge_jobs.specs.CommandLines.{Choice, CommandLinesAreRead, Look, Reading, Syntax, Value, as_value, at_place, by_look, by_name}
use Rattle.bridge_jobs.specs.CommandLines.{given_by, given_of, has_repeat, hyphens, is_given, is_option, is_whole, letters, look_of}
use Rattle.bridge_jobs.specs.CommandLines.{read_job, value_of, named, plain, read_by, read_from, row_of, syntax_of}
use Rattle.bridge_jobs.specs.{declared.verb.Verb.Verb, declared.verb.Verb.TheVariants.{Hls, Dash, Follow, Show, Check, Reload, Make}}
use Rattle.bridge_jobs.specs.declared.verb.Verb.TheVariants.{HlsIndex, DashTimes, Agree, FollowHls, FollowHlsTimes, Compare}

-- ---- the arguments of a command that is built

-- an argument that takes one value
abbrev pub single : Option Text → Option ℕ → Bool → Text → Rule
single long index required name = record (new_rule name) {
  long = long;
  index = index;
  action = Some Set;
  range = Some (record { start_inclusive = 1; end_inclusive = 1 });
  parser = Some String;
  required = required;
}

abbrev pub option_rules : List Choice → List Rule
option_rules [] = filled help_rule ∷ []
option_rules (o ∷ options) = single (Some o.name) None o.is_required o.name ∷ option_rules options

abbrev pub rules_from : ℕ → List Text → List Choice → List Rule
rules_from i [] options = option_rules options
rules_from i (name ∷ places) options = single None (Some i) true name ∷ rules_from (i + 1) places options

abbrev pub rules_of : Syntax → List Rule
rules_of s = rules_from 1 s.places s.options

abbrev pub shape_with : Text → Syntax → Shape
shape_with word s = record (new_shape word) { rules = rules_of s; disable_help_subcommand = true; is_built = true }

abbrev pub app_with : Text → Syntax → App
app_with word s = record { top = shape_with word s; subs = [] }

pub is_built : (verb : Verb) → built (app_of_verb verb) ≡ app_with (word_of verb) (syntax_of verb)
is_built Hls = refl
is_built Dash = refl
is_built Follow = refl
is_built Show = refl
is_built Check = refl
is_built Reload = refl
is_built Make = refl
is_built HlsIndex = refl
is_built DashTimes = refl
is_built Agree = refl
is_built FollowHls = refl
is_built FollowHlsTimes = refl
is_built Compare = refl

-- ---- which argument a word is of

-- the option, or else the request for help, or none
pub record IsNamed (options : List Choice) (name : Text) (found : Option Rule) : Type 0 where
  pub known : is_option options name ≡ true → (required : Bool) × (found ≡ Some (single (Some name) None required name))
  pub unknown : is_option options name ≡ false → (found ≡ None) ⊎ (found ≡ Some (filled help_rule))

option_found : (name : Text) (options : List Choice) → IsNamed options name (arg_by_long (option_rules options) name)
option_found name [] = go (has_long (filled help_rule) name)
  where
    go : (b : Bool) → IsNamed [] name (if b then Some (filled help_rule) else None)
    go true = record { known = λ e. absurd (true≢false (sym e)); unknown = λ e. inr refl }
    go false = record { known = λ e. absurd (true≢false (sym e)); unknown = λ e. inl refl }
option_found name (o ∷ options) = go (bytes_eq o.name name) refl (option_found name options)
  where
    go : (b : Bool) → bytes_eq o.name name ≡ b → IsNamed options name (arg_by_long (option_rules options) name)
        → IsNamed (o ∷ options) name (arg_by_long (option_rules (o ∷ options)) name)
    go true e next = record {
      known = λ is. (o.is_required, rw e (ap (λ n. Some (single (Some n) None o.is_required n)) ((bytes_eq-Decides o.name name).0 e)));
      unknown = λ is. let bad : true ≡ false = rw e at is in absurd (true≢false bad);
    }
    go false e next = record {
      known = λ is. let found = next.known (rw e at is) in (found.0, rw e found.1);
      unknown = λ is. rw e (next.unknown (rw e at is));
    }

long_found : (i : ℕ) (places : List Text) (options : List Choice) (name : Text)
    → IsNamed options name (arg_by_long (rules_from i places options) name)
long_found i [] options name = option_found name options
long_found i (place ∷ places) options name = long_found (i + 1) places options name

-- a short option is none but the request for help
abbrev IsHelpOrNone : Option Rule → Type 0
IsHelpOrNone found = (found ≡ None) ⊎ (found ≡ Some (filled help_rule))

letter_found : (x : ℕ) (options : List Choice) → IsHelpOrNone (arg_by_short (option_rules options) x)
letter_found x [] = go (has_short (filled help_rule) x)
  where
    go : (b : Bool) → IsHelpOrNone (if b then Some (filled help_rule) else None)
    go true = inr refl
    go false = inl refl
letter_found x (o ∷ options) = letter_found x options

short_found : (i : ℕ) (places : List Text) (options : List Choice) (x : ℕ) → IsHelpOrNone (arg_by_short (rules_from i places options) x)
short_found i [] options x = letter_found x options
short_found i (place ∷ places) options x = short_found (i + 1) places options x

-- the place or the option of a name
abbrev is_known : List Text → List Choice → Text → Bool
is_known places options name = list_any (λ p. bytes_eq p name) places || is_option options name

abbrev IsSingle : Text → Option Rule → Type 0
IsSingle name found = (long : Option Text) × (index : Option ℕ) × (required : Bool) × (found ≡ Some (single long index required name))

name_found : (name : Text) (options : List Choice) → is_option options name ≡ true → IsSingle name (arg_by_id (option_rules options) name)
name_found name [] is = absurd (true≢false (sym is))
name_found name (o ∷ options) is = go (bytes_eq o.name name) refl (name_found name options)
  where
    go : (b : Bool) → bytes_eq o.name name ≡ b → (is_option options name ≡ true → IsSingle name (arg_by_id (option_rules options) name))
        → IsSingle name (arg_by_id (option_rules (o ∷ options)) name)
    go true e next = (
      Some o.name,
      None,
      o.is_required,
      rw e (ap (λ n. Some (single (Some o.name) None o.is_required n)) ((bytes_eq-Decides o.name name).0 e)),
    )
    go false e next = rw e (next (rw e at is))

id_found : (i : ℕ) (places : List Text) (options : List Choice) (name : Text) → is_known places options name ≡ true
    → IsSingle name (arg_by_id (rules_from i places options) name)
id_found i [] options name is = name_found name options is
id_found i (place ∷ places) options name is = go (bytes_eq place name) refl (id_found (i + 1) places options name)
  where
    go : (b : Bool) → bytes_eq place name ≡ b → (is_known places options name ≡ true
        → IsSingle name (arg_by_id (rules_from (i + 1) places options) name))
        → IsSingle name (arg_by_id (rules_from i (place ∷ places) options) name)
    go true e next = (None, Some i, true, rw e (ap (λ n. Some (single None (Some i) true n)) ((bytes_eq-Decides place name).0 e)))
    go false e next = rw e (next (rw e at is))

-- the place of a word by its number
no_place : (k : ℕ) (options : List Choice) → arg_by_index (option_rules options) k ≡ None
no_place k [] = refl
no_place k (o ∷ options) = no_place k options

place_found : (i k : ℕ) (front : List Text) (name : Text) (more : List Text) (options : List Choice) → k ≡ i + length front
    → arg_by_index (rules_from i (front ++ name ∷ more) options) k ≡ Some (single None (Some k) true name)
place_found i k [] name more options at =
    let same : i ≡ k = omega arith in
    rw (eq-eqb i k same) (ap (λ n. Some (single None (Some n) true name)) same)
place_found i k (place ∷ front) name more options at =
    let other : (i == k) ≡ false = ne_eqb i k (λ same. omega arith) in
    rw other (place_found (i + 1) k front name more options (omega arith))

place_missing : (i k : ℕ) (places : List Text) (options : List Choice) → k ≡ i + length places
    → arg_by_index (rules_from i places options) k ≡ None
place_missing i k [] options at = no_place k options
place_missing i k (place ∷ places) options at =
    let other : (i == k) ≡ false = ne_eqb i k (λ same. omega arith) in
    rw other (place_missing (i + 1) k places options (omega arith))

-- ---- rows

has_row-given : (name : Text) (given : List Value) → has_row name (map row_of given) ≡ is_given name given
has_row-given name [] = refl
has_row-given name (v ∷ given) = ap (λ b. bytes_eq v.0 name || b) (has_row-given name given)

is_given-given : (name : Text) (given : List Value) → takes.is_given name (map row_of given) ≡ is_given name given
is_given-given name [] = refl
is_given-given name (v ∷ given) = go (bytes_eq v.0 name) refl (is_given-given name given)
  where
    go : (b : Bool) → bytes_eq v.0 name ≡ b → takes.is_given name (map row_of given) ≡ is_given name given
        → takes.is_given name (map row_of (v ∷ given)) ≡ is_given name (v ∷ given)
    go true e next = rw e refl
    go false e next = rw e next

at_no_row : (id : Text) (change : Row → List Row) (missing rows : List Row) → has_row id rows ≡ false
    → at_row id change missing rows ≡ rows ++ missing
at_no_row id change missing [] none = refl
at_no_row id change missing (r ∷ rows) none = go (bytes_eq r.id id) refl (at_no_row id change missing rows)
  where
    go : (b : Bool) → bytes_eq r.id id ≡ b → (has_row id rows ≡ false → at_row id change missing rows ≡ rows ++ missing)
        → at_row id change missing (r ∷ rows) ≡ (r ∷ rows) ++ missing
    go true e next = let bad : true ≡ false = rw e at none in absurd (true≢false bad)
    go false e next = rw e (ap (λ x. r ∷ x) (next (rw e at none)))

used_once : (long : Option Text) (index : Option ℕ) (required : Bool) (name value : Text) (rows : List Row) → has_row name rows ≡ false
    → used (single long index required name) (value ∷ []) rows ≡ rows ++ row_of (name, value) ∷ []
used_once long index required name value rows none =
    let new : Row = row_of (name, value) in
    ap (with_values name new.reading CommandLine (value ∷ [])) (at_no_row name (λ _. []) [] rows none ∙ append-nil rows)
    ∙ at_no_row name (more_values CommandLine (value ∷ [])) (new ∷ []) rows none

has_repeat-more : (given : List Value) (name value : Text) → has_repeat (given ++ (name, value) ∷ [])
    ≡ (has_repeat given || is_given name given)
has_repeat-more [] name value = refl
has_repeat-more (v ∷ given) name value =
    rw (list_any-append (λ u. bytes_eq u.0 v.0) given ((name, value) ∷ []), has_repeat-more given name value, turned)
    (go (is_given v.0 given) (bytes_eq v.0 name) (has_repeat given) (is_given name given))
  where
    turned : bytes_eq name v.0 ≡ bytes_eq v.0 name
    turned = same_from_decides _ _ (bytes_eq-Decides name v.0) (
      λ e. sym ((bytes_eq-Decides v.0 name).0 e),
      λ e. (bytes_eq-Decides v.0 name).1 (sym e),
    )

    go : (a b c d : Bool) → ((a || (b || false)) || (c || d)) ≡ ((a || c) || (b || d))
    go true b c d = refl
    go false true true d = refl
    go false true false d = refl
    go false false c d = refl

-- ---- at the end of the words

abbrev HaveNoDefaults : List Rule → Type 0
HaveNoDefaults [] = Unit {0}
HaveNoDefaults (a ∷ rules) = (a.defaults ≡ []) × HaveNoDefaults rules

no_defaults : (i : ℕ) (places : List Text) (options : List Choice) → HaveNoDefaults (rules_from i places options)
no_defaults i [] [] = (refl, tt)
no_defaults i [] (o ∷ options) = (refl, no_defaults i [] options)
no_defaults i (place ∷ places) options = (refl, no_defaults (i + 1) places options)

same_both : {A : Type 0} (b : Bool) (x : A) → (if b then x else x) ≡ x
same_both true x = refl
same_both false x = refl

with_no_defaults : (rules : List Rule) (rows : List Row) → HaveNoDefaults rules → fold with_default rows rules ≡ rows
with_no_defaults [] rows none = refl
with_no_defaults (a ∷ rules) rows none =
    let same : with_default rows a ≡ rows = rw (none.0) (same_both (has_row a.id rows) rows) in
    ap (λ x. fold with_default x rules) same ∙ with_no_defaults rules rows none.1

no_default_fails : (rules : List Rule) (rows : List Row) → HaveNoDefaults rules → defaults_fault rows rules ≡ []
unfolding defaults_fault
no_default_fails [] rows none = refl
no_default_fails (a ∷ rules) rows none =
    let first : default_fault rows a ≡ [] = rw (none.0) (go (has_row a.id rows)) in
    ap (λ x. or_else x (defaults_fault (with_default rows a) rules)) first ∙ no_default_fails rules (with_default rows a) none.1
  where
    go : (b : Bool) → (if b || true then [] else given_default_fault a []) ≡ []
    go true = refl
    go false = refl

option_missing : (given : List Value) (options : List Choice)
    → list_any (λ a. a.required && not (takes.is_given a.id (map row_of given))) (option_rules options)
    ≡ not (list_all (λ o. not o.is_required || is_given o.name given) options)
option_missing given [] = refl
option_missing given (o ∷ options) =
    rw (is_given-given o.name given, option_missing given options) (go o.is_required (is_given o.name given) _)
  where
    go : (a b c : Bool) → ((a && not b) || not c) ≡ not ((not a || b) && c)
    go false b c = refl
    go true true c = refl
    go true false c = refl

some_missing : (i : ℕ) (given : List Value) (places : List Text) (options : List Choice)
    → list_any (λ a. a.required && not (takes.is_given a.id (map row_of given))) (rules_from i places options)
    ≡ not (list_all (λ name. is_given name given) places && list_all (λ o. not o.is_required || is_given o.name given) options)
some_missing i given [] options = option_missing given options
some_missing i given (place ∷ places) options =
    rw (is_given-given place given, some_missing (i + 1) given places options) (go (is_given place given) _ _)
  where
    go : (a b c : Bool) → (not a || not (b && c)) ≡ not ((a && b) && c)
    go true b c = refl
    go false b c = refl

-- what the words give, as `clap` writes it
abbrev answer : Syntax → List Text → Reading → Option (List Row)
answer s words r = option_map (map row_of) (read_from s.options words r >>= given_of s)

-- ---- a name with two values

repeat_kept : (given : List Value) (name value : Text) → has_repeat given ≡ true → has_repeat (given ++ (name, value) ∷ []) ≡ true
repeat_kept given name value is = rw (has_repeat-more given name value, is) refl

abbrev Repeats : Option Reading → Type 0
Repeats r = IfSome r (λ r. has_repeat r.given ≡ true)

place_repeats : (places : List Text) (word : Text) (r : Reading) → has_repeat r.given ≡ true → Repeats (at_place places word r)
place_repeats [] word r is = tt
place_repeats (name ∷ places) word r is = repeat_kept r.given name word is

name_repeats : (is_option : Bool) (name : Text) (value : Option Text) (r : Reading) → has_repeat r.given ≡ true
    → Repeats (by_name is_option name value r)
name_repeats false name value r is = tt
name_repeats true name (Some value) r is = repeat_kept r.given name value is
name_repeats true name None r is = is

look_repeats : (options : List Choice) (look : Look) (word : Text) (r : Reading) → has_repeat r.given ≡ true
    → Repeats (by_look options look word r)
look_repeats options hyphens word r is = is
look_repeats options (named name value) word r is = name_repeats (is_option options name) name value r is
look_repeats options letters word r is = tt
look_repeats options plain word r is = place_repeats r.places word r is

value_repeats : (look : Look) (name word : Text) (r : Reading) → has_repeat r.given ≡ true → Repeats (as_value look name word r)
value_repeats hyphens name word r is = tt
value_repeats (named n v) name word r is = tt
value_repeats letters name word r is = tt
value_repeats plain name word r is = repeat_kept r.given name word is

word_repeats : (options : List Choice) (rest : Bool) (waiting : Option Text) (word : Text) (r : Reading) → has_repeat r.given ≡ true
    → Repeats (read_by options rest waiting word r)
word_repeats options true waiting word r is = place_repeats r.places word r is
word_repeats options false (Some name) word r is = value_repeats (look_of word) name word r is
word_repeats options false None word r is = look_repeats options (look_of word) word r is

refused_repeat : (s : Syntax) (words : List Text) (r : Reading) → has_repeat r.given ≡ true → answer s words r ≡ None
refused_repeat s [] r is = go (is_some r.waiting)
  where
    go : (b : Bool) → option_map (map row_of) (if not b && not (has_repeat r.given)
        && (list_all (λ name. is_given name r.given) s.places && list_all (λ o. not o.is_required || is_given o.name r.given) s.options)
        then Some r.given else None) ≡ None
    go true = refl
    go false = rw is refl
refused_repeat s (word ∷ words) r is = go (read_by s.options r.is_rest r.waiting word r)
    (word_repeats s.options r.is_rest r.waiting word r is) (refused_repeat s words)
  where
    go : (o : Option Reading) → Repeats o → ((r : Reading) → has_repeat r.given ≡ true → answer s words r ≡ None)
        → option_map (map row_of) ((o >>= read_from s.options words) >>= given_of s) ≡ None
    go None repeats next = refl
    go (Some r) repeats next = next r repeats

none_repeats : (s : Syntax) (words : List Text) (r : Option Reading) → Repeats r
    → option_map (map row_of) ((r >>= read_from s.options words) >>= given_of s) ≡ None
none_repeats s words None is = refl
none_repeats s words (Some r) is = refused_repeat s words r is

-- ---- one word more

abbrev IsFault : Kinds → Type 0
IsFault kinds = (k : ErrorKind) × (ks : Kinds) × (kinds ≡ k ∷ ks)

fault_first : (a b : Kinds) → IsFault a → IsFault (or_else a b)
fault_first a b fails = (fails.0, fails.1, ap (λ x. or_else x b) fails.2)

fault_next : (a b : Kinds) → IsFault b → IsFault (or_else a b)
fault_next [] b fails = fails
fault_next (k ∷ ks) b fails = (k, ks, refl)

abbrev held : List Row → Option (Text × List Text) → Held
held rows pending = record { rows = rows; pending = pending; skip = 0 }

abbrev walk_at : Held → Waiting → ℕ → Bool → Walk
walk_at h waiting at is_rest = record { held = h; waiting = waiting; position = at; is_trailing = is_rest; stopped = None }

abbrev end_fault : Shape → Held → Kinds
end_fault top h = or_else (settle_fault top.rules false h) (or_else (defaults_fault (settled top.rules h).rows top.rules)
    (check_fault top (finished top.rules h) false))

abbrev outcome_by : Text → Syntax → Kinds → Held → Option (List Row)
outcome_by word s kinds end = unless_at_fault (or_else kinds (end_fault (shape_with word s) end)) (finished (rules_of s) end)

-- what `clap` makes of the words from a walk on
abbrev outcome : Text → Syntax → Walk → List Text → Option (List Row)
outcome word s w words = outcome_by word s (walk_fault (shape_with word s) [] w words) (fold (walked (rules_of s) []) w words).held

refused_at : (word : Text) (s : Syntax) (w : Walk) (next : Text) (words : List Text) → IsFault (turn_fault (shape_with word s) [] w next)
    → outcome word s w (next ∷ words) ≡ None
unfolding walk_fault
refused_at word s w next words fails =
    let w2 : Walk = walked (rules_of s) [] w next in
    ap (λ t. outcome_by word s (or_else t (walk_fault (shape_with word s) [] w2 words)) (fold (walked (rules_of s) []) w2 words).held)
    fails.2

goes_on : (word : Text) (s : Syntax) (w w2 : Walk) (next : Text) (words : List Text) → turn_fault (shape_with word s) [] w next ≡ []
    → walked (rules_of s) [] w next ≡ w2
    → outcome word s w (next ∷ words) ≡ outcome word s w2 words
unfolding walk_fault
goes_on word s w w2 next words passes step =
    let w1 : Walk = walked (rules_of s) [] w next in
    ap (λ t. outcome_by word s (or_else t (walk_fault (shape_with word s) [] w1 words)) (fold (walked (rules_of s) []) w1 words).held)
    passes
    ∙ ap (λ x. outcome word s x words) step

-- what is held gives these values, once what is pending is used
record Settles (s : Syntax) (rows : List Row) (pending : Option (Text × List Text)) (given : List Value) : Type 0 where
  fails : has_repeat given ≡ true → IsFault (settle_fault (rules_of s) false (held rows pending))
  passes : has_repeat given ≡ false → settle_fault (rules_of s) false (held rows pending) ≡ []
  gives : has_repeat given ≡ false → settled_rows (rules_of s) pending rows ≡ map row_of given

none_settles : (s : Syntax) (given : List Value) → has_repeat given ≡ false → Settles s (map row_of given) None given
none_settles s given once = record {
  fails = λ is. let bad : true ≡ false = sym is ∙ once in absurd (true≢false bad);
  passes = λ _. refl;
  gives = λ _. refl;
}

-- one use of an argument
record UsesOnce (name value : Text) (rule : Rule) (given : List Value) : Type 0 where
  fails : has_repeat (given ++ (name, value) ∷ []) ≡ true → IsFault (use_fault false rule (value ∷ []) (map row_of given))
  passes : has_repeat (given ++ (name, value) ∷ []) ≡ false → use_fault false rule (value ∷ []) (map row_of given) ≡ []
  gives : has_repeat (given ++ (name, value) ∷ []) ≡ false → used rule (value ∷ []) (map row_of given)
      ≡ map row_of (given ++ (name, value) ∷ [])

uses_once : (long : Option Text) (index : Option ℕ) (required : Bool) (name value : Text) (given : List Value) → has_repeat given ≡ false
    → UsesOnce name value (single long index required name) given
uses_once long index required name value given once = record {
  fails = λ is. rw (has_row-given name given, sym again ∙ is) (ArgumentConflict, [], refl);
  passes = λ is. rw (has_row-given name given, sym again ∙ is) refl;
  gives = λ is. used_once long index required name value (map row_of given) (has_row-given name given ∙ sym again ∙ is)
      ∙ sym (map-append row_of given ((name, value) ∷ []));
}
  where
    again : has_repeat (given ++ (name, value) ∷ []) ≡ is_given name given
    again = rw (has_repeat-more given name value, once) refl

pending_settles : (s : Syntax) (name value : Text) (given : List Value) → is_known s.places s.options name ≡ true → has_repeat given ≡ false
    → Settles s (map row_of given) (Some (name, value ∷ [])) (given ++ (name, value) ∷ [])
pending_settles s name value given known once =
    let found = id_found 1 s.places s.options name known in
    let uses = uses_once found.0 found.1 found.2 name value given once in
    record {
      fails = λ is. rw (found.3) (uses.fails is);
      passes = λ is. rw (found.3) (uses.passes is);
      gives = λ is. rw (found.3) (uses.gives is);
    }

-- ---- at the end

-- once what is pending is used
abbrev settled_by : Text → Syntax → Kinds → List Row → Option (List Row)
settled_by word s kinds rows =
    let all : List Row = fold with_default rows (rules_of s) in
    unless_at_fault (or_else kinds (or_else (defaults_fault rows (rules_of s)) (check_fault (shape_with word s) all false))) all

abbrev has_all : Syntax → List Value → Bool
has_all s given = list_all (λ name. is_given name given) s.places && list_all (λ o. not o.is_required || is_given o.name given) s.options

settled_is : (word : Text) (s : Syntax) (given : List Value) → settled_by word s [] (map row_of given)
    ≡ option_map (map row_of) (if has_all s given then Some given else None)
settled_is word s given =
    ap (λ kinds. unless_at_fault (or_else kinds (check_fault (shape_with word s) all false)) all)
    (no_default_fails (rules_of s) (map row_of given) none)
    ∙ ap (λ rows. unless_at_fault (check_fault (shape_with word s) rows false) rows) (with_no_defaults (rules_of s) (map row_of given) none)
    ∙ ap (λ b. unless_at_fault (if b then MissingRequiredArgument ∷ [] else []) (map row_of given))
    (some_missing 1 given s.places s.options)
    ∙ go (has_all s given)
  where
    all : List Row
    all = fold with_default (map row_of given) (rules_of s)

    none : HaveNoDefaults (rules_of s)
    none = no_defaults 1 s.places s.options

    go : (b : Bool) → unless_at_fault (if not b then MissingRequiredArgument ∷ [] else []) (map row_of given)
        ≡ option_map (map row_of) (if b then Some given else None)
    go true = refl
    go false = refl

ends : (word : Text) (s : Syntax) (rows : List Row) (pending : Option (Text × List Text)) (waiting : Waiting) (at : ℕ) (r : Reading)
    → r.waiting ≡ None → Settles s rows pending r.given
    → outcome word s (walk_at (held rows pending) waiting at r.is_rest) [] ≡ answer s [] r
unfolding walk_fault
ends word s rows pending waiting at r none settles = go (has_repeat r.given) refl
  where
    go : (b : Bool) → has_repeat r.given ≡ b → outcome_by word s [] (held rows pending) ≡ answer s [] r
    go true e =
        ap (λ kinds. settled_by word s kinds (settled_rows (rules_of s) pending rows)) (settles.fails e).2
        ∙ sym (refused_repeat s [] r e)
    go false e =
        let is : is_whole s r ≡ has_all s r.given = rw (none, e) refl in
        ap (λ kinds. settled_by word s kinds (settled_rows (rules_of s) pending rows)) (settles.passes e)
        ∙ ap (settled_by word s []) (settles.gives e)
        ∙ settled_is word s r.given
        ∙ ap (λ b. option_map (map row_of) (if b then Some r.given else None)) (sym is)

-- ---- the words from a walk on

-- the walk that stands where the reading does, in both states
record Reads (word : Text) (s : Syntax) (words : List Text) : Type 0 where
  idles : (rows : List Row) (pending : Option (Text × List Text)) (given : List Value) (front places : List Text) (at : ℕ) (is_rest : Bool)
      → front ++ places ≡ s.places → at ≡ 1 + length front
      → Settles s rows pending given
      → outcome word s (walk_at (held rows pending) idle at is_rest) words
      ≡ answer s words (record { given = given; places = places; waiting = None; is_rest = is_rest })
  waits : (given : List Value) (name : Text) (front places : List Text) (at : ℕ) → front ++ places ≡ s.places → at ≡ 1 + length front
      → has_repeat given ≡ false → is_known s.places s.options name ≡ true
      → outcome word s (walk_at (held (map row_of given) (Some (name, []))) (option name) at false) words
      ≡ answer s words (record { given = given; places = places; waiting = Some name; is_rest = false })

-- ---- a word that takes a place

or_false : (b : Bool) → (b || false) ≡ b
or_false true = refl
or_false false = refl

place_at : (s : Syntax) (front : List Text) (name : Text) (more : List Text) (at : ℕ) → front ++ name ∷ more ≡ s.places
    → at ≡ 1 + length front
    → arg_by_index (rules_of s) at ≡ Some (single None (Some at) true name)
place_at s front name more at all is = ap (λ places. arg_by_index (rules_from 1 places s.options) at) (sym all)
    ∙ place_found 1 at front name more s.options is

no_place_at : (s : Syntax) (front : List Text) (at : ℕ) → front ++ [] ≡ s.places → at ≡ 1 + length front
    → arg_by_index (rules_of s) at ≡ None
no_place_at s front at all is = ap (λ places. arg_by_index (rules_from 1 places s.options) at) (sym all ∙ append-nil front)
    ∙ place_missing 1 at front s.options is

place_known : (front : List Text) (name : Text) (more : List Text) → list_any (λ p. bytes_eq p name) (front ++ name ∷ more) ≡ true
place_known [] name more = rw ((bytes_eq-Decides name name).1 refl) refl
place_known (place ∷ front) name more = rw (place_known front name more) (go (bytes_eq place name))
  where
    go : (b : Bool) → (b || true) ≡ true
    go true = refl
    go false = refl

-- the word goes to the argument of its place
abbrev place_fault : Syntax → Held → Option Rule → Kinds
place_fault s h found = option_map_or (λ a. positional_fault (rules_of s) false a h) found (UnknownArgument ∷ [])

placed : (word : Text) (s : Syntax) (rows : List Row) (pending : Option (Text × List Text)) (given : List Value) (front places : List Text)
    (at : ℕ) (is_rest : Bool) (next : Text) (words : List Text)
    → length s.places ≤ 2 → front ++ places ≡ s.places → at ≡ 1 + length front → Settles s rows pending given → Reads word s words
    → turn_fault (shape_with word s) [] (walk_at (held rows pending) idle at is_rest) next
    ≡ place_fault s (held rows pending) (arg_by_index (rules_of s) at)
    → walked (rules_of s) [] (walk_at (held rows pending) idle at is_rest) next
    ≡ to_positional (rules_of s) (arg_by_index (rules_of s) at) next (walk_at (held rows pending) idle at is_rest) (held rows pending)
    → outcome word s (walk_at (held rows pending) idle at is_rest) (next ∷ words)
    ≡ option_map (map row_of) ((at_place places next (record {
      given = given;
      places = places;
      waiting = None;
      is_rest = is_rest;
    }) >>= read_from s.options words) >>= given_of s)
placed word s rows pending given front [] at is_rest next words few all is settles reads turn step =
    refused_at word s _ next words (UnknownArgument, [], turn ∙ ap (place_fault s (held rows pending)) (no_place_at s front at all is))
placed word s rows pending given front (name ∷ more) at is_rest next words few all is settles reads turn step = go (has_repeat given) refl
  where
    w : Walk
    w = walk_at (held rows pending) idle at is_rest

    rule : Rule
    rule = single None (Some at) true name

    after : Reading
    after = record { given = given ++ (name, next) ∷ []; places = more; waiting = None; is_rest = is_rest }

    fault : turn_fault (shape_with word s) [] w next ≡ settle_fault (rules_of s) false (held rows pending)
    fault =
        turn ∙ ap (place_fault s (held rows pending)) (place_at s front name more at all is)
        ∙ ap (λ b. if b then [] else settle_fault (rules_of s) false (held rows pending)) (and_right (is_pending rule pending) false refl)

    go : (b : Bool) → has_repeat given ≡ b → outcome word s w (next ∷ words) ≡ answer s words after
    go true e =
        let fails = settles.fails e in
        refused_at word s w next words (fails.0, fails.1, fault ∙ fails.2)
        ∙ sym (refused_repeat s words after (repeat_kept given name next e))
    go false e =
        goes_on word s w w2 next words (fault ∙ settles.passes e) (step
        ∙ ap (λ found. to_positional (rules_of s) found next w (held rows pending)) (place_at s front name more at all is) ∙ arrives e)
        ∙ reads.idles (map row_of given) (Some (name, next ∷ [])) (given ++ (name, next) ∷ []) (front ++ name ∷ []) more (at + 1) is_rest
        (append_assoc front (name ∷ []) more ∙ all)
        (omega (arith, length-append front (name ∷ []))) (pending_settles s name next given known e)
      where
        w2 : Walk
        w2 = walk_at (held (map row_of given) (Some (name, next ∷ []))) idle (at + 1) is_rest

        known : is_known s.places s.options name ≡ true
        known = rw (ap (list_any (λ p. bytes_eq p name)) (sym all) ∙ place_known front name more) refl

        low : min (at + 1) usize_max ≡ at + 1
        low = let most : length front + suc (length more) ≤ 2 = rw (sym (length-append front (name ∷ more)), ap length all) few in
            omega arith

        arrives : has_repeat given ≡ false → to_positional (rules_of s) (Some rule) next w (held rows pending) ≡ w2
        arrives e =
            (λ i. walk_at (pushed name next (if and_right (is_pending rule pending) false refl i then held rows pending
            else settled (rules_of s) (held rows pending))) idle (low i) (or_false is_rest i))
            ∙ ap (λ x. walk_at (held x (Some (name, next ∷ []))) idle (at + 1) is_rest) (settles.gives e)

-- ---- a word that is an option

no_names : (waiting : Waiting) (next : Text) → subcommand_met [] waiting next ≡ None
no_names idle next = refl
no_names (option name) next = refl
no_names positional next = refl

help_fails : (s : Syntax) (h : Held) (value : Option Text) → IsFault (long_fault (rules_of s) false (Some (filled help_rule)) value h)
help_fails s h (Some v) = (TooManyValues, [], refl)
help_fails s h None = fault_next (settle_fault (rules_of s) false h) (DisplayHelp ∷ []) (DisplayHelp, [], refl)

unknown_fails : (s : Syntax) (h : Held) (name : Text) (value : Option Text) → is_option s.options name ≡ false
    → IsFault (long_fault (rules_of s) false (arg_by_long (rules_of s) name) value h)
unknown_fails s h name value is = go ((long_found 1 s.places s.options name).unknown is)
  where
    go : IsHelpOrNone (arg_by_long (rules_of s) name) → IsFault (long_fault (rules_of s) false (arg_by_long (rules_of s) name) value h)
    go (inl none) = rw none (UnknownArgument, [], refl)
    go (inr help) = rw help (help_fails s h value)

settle_fails : (s : Syntax) (h : Held) (name : Text) (value : Option Text) → is_option s.options name ≡ true
    → IsFault (settle_fault (rules_of s) false h)
    → IsFault (long_fault (rules_of s) false (arg_by_long (rules_of s) name) value h)
settle_fails s h name (Some v) is fails =
    let found = (long_found 1 s.places s.options name).known is in
    rw (found.1) (fault_first (settle_fault (rules_of s) false h)
    (use_fault false (single (Some name) None found.0 name) (v ∷ []) (settled (rules_of s) h).rows) fails)
settle_fails s h name None is fails = let found = (long_found 1 s.places s.options name).known is in rw (found.1) fails

-- ---- short options

letters_fail : (s : Syntax) (h : Held) (x : ℕ) (xs : List ℕ) (y : ℕ) (ys : List ℕ) → h.skip ≡ 0 → chars (x ∷ xs) ≡ y ∷ ys
    → IsFault (bundle_fault (rules_of s) false (x ∷ xs) h)
unfolding flags_fault
letters_fail s h x xs y ys none spells = rw (none, spells) (go (short_found 1 s.places s.options y))
  where
    h0 : Held
    h0 = record h { skip = 0 }

    rest : Text
    rest = drop (length (encode_utf8 y)) (x ∷ xs)

    next : Held → Kinds
    next = flags_fault (rules_of s) false (length xs) rest 0

    go : IsHelpOrNone (arg_by_short (rules_of s) y) → IsFault (short_fault (rules_of s) false (arg_by_short (rules_of s) y) rest h0 next)
    go (inl missing) = rw missing (UnknownArgument, [], refl)
    go (inr help) = rw help (fault_first (react_fault (rules_of s) false (filled help_rule) [] h0)
        (next (reacted (rules_of s) (filled help_rule) [] h0)) (fault_next (settle_fault (rules_of s) false h0) (DisplayHelp ∷ [])
        (DisplayHelp, [], refl)))

-- behind a hyphen some character stands
some_letter : (x : ℕ) (xs : List ℕ) → IsUtf8 (45 ∷ x ∷ xs) → (y : ℕ) × (ys : List ℕ) × (chars (x ∷ xs) ≡ y ∷ ys)
unfolding encode_utf8
some_letter x xs text = go (chars (x ∷ xs)) refl
  where
    whole : chars (45 ∷ x ∷ xs) ≡ 45 ∷ chars (x ∷ xs)
    whole = chars_past_char (45 ∷ x ∷ xs) (x ∷ xs) 45 text refl

    go : (cs : List ℕ) → chars (x ∷ xs) ≡ cs → (y : ℕ) × (ys : List ℕ) × (chars (x ∷ xs) ≡ y ∷ ys)
    go [] e =
        let one : 45 ∷ [] ≡ 45 ∷ x ∷ xs = ap encode_utf8_all (sym (whole ∙ ap (λ cs. 45 ∷ cs) e)) ∙ encodes-chars (45 ∷ x ∷ xs) text in
        let bad : 1 ≡ suc (suc (length xs)) = ap length one in
        absurd (omega arith)
    go (y ∷ ys) e = (y, ys, e)

-- ---- a word before `--`, by its look

abbrev met_by : Syntax → Held → Waiting → ℕ → Text → Bool → Option (Text × Option Text) → Held × Step
met_by s h waiting at next dashes long = if dashes then (h, trailing at) else long_or_other (rules_of s) waiting next long h

abbrev turn_by : Text → Syntax → Held → Waiting → ℕ → Text → Bool → Option (Text × Option Text) → Kinds
turn_by word s h waiting at next dashes long =
    or_else (if dashes then [] else flag_word_fault (rules_of s) false long next h)
    (step_fault (shape_with word s) at (met_by s h waiting at next dashes long).0 (met_by s h waiting at next dashes long).1)

abbrev walked_by : Syntax → Held → Waiting → ℕ → Text → Bool → Option (Text × Option Text) → Walk
walked_by s h waiting at next dashes long =
    after_step (rules_of s) next (walk_at h waiting at false) (met_by s h waiting at next dashes long).0
    (met_by s h waiting at next dashes long).1

turn_seen : (word : Text) (s : Syntax) (h : Held) (waiting : Waiting) (at : ℕ) (next : Text) (dashes : Bool)
    (long : Option (Text × Option Text)) → bytes_eq next (codes "--") ≡ dashes → long_of next ≡ long
    → turn_fault (shape_with word s) [] (walk_at h waiting at false) next ≡ turn_by word s h waiting at next dashes long
turn_seen word s h idle at next dashes long e l = λ i. turn_by word s h idle at next (e i) (l i)
turn_seen word s h (option name) at next dashes long e l = λ i. turn_by word s h (option name) at next (e i) (l i)
turn_seen word s h positional at next dashes long e l = λ i. turn_by word s h positional at next (e i) (l i)

walked_seen : (s : Syntax) (h : Held) (waiting : Waiting) (at : ℕ) (next : Text) (dashes : Bool) (long : Option (Text × Option Text))
    → bytes_eq next (codes "--") ≡ dashes → long_of next ≡ long
    → walked (rules_of s) [] (walk_at h waiting at false) next ≡ walked_by s h waiting at next dashes long
unfolding walked
walked_seen s h idle at next dashes long e l = λ i. walked_by s h idle at next (e i) (l i)
walked_seen s h (option name) at next dashes long e l = λ i. walked_by s h (option name) at next (e i) (l i)
walked_seen s h positional at next dashes long e l = λ i. walked_by s h positional at next (e i) (l i)

abbrev look_by : Bool → Option (Text × Option Text) → Option Text → Look
look_by true long short = hyphens
look_by false (Some parts) short = named parts.0 parts.1
look_by false None (Some rest) = letters
look_by false None None = plain

looks : (word : Text) → look_by (bytes_eq word (codes "--")) (long_of word) (short_of word) ≡ look_of word
looks [] = refl
looks (b ∷ []) = go (b == 45) refl
  where
    go : (dash : Bool) → (b == 45) ≡ dash → look_by (bytes_eq (b ∷ []) (codes "--")) (long_of (b ∷ [])) (short_of (b ∷ []))
        ≡ look_of (b ∷ [])
    go true e = rw e refl
    go false e = rw e refl
looks (b ∷ c ∷ []) = go (b == 45) refl (c == 45) refl
  where
    go : (dash : Bool) → (b == 45) ≡ dash → (second : Bool) → (c == 45) ≡ second
        → look_by (bytes_eq (b ∷ c ∷ []) (codes "--")) (long_of (b ∷ c ∷ [])) (short_of (b ∷ c ∷ [])) ≡ look_of (b ∷ c ∷ [])
    go true e true f = rw (e, f) refl
    go true e false f = rw (e, f) refl
    go false e second f = rw e refl
looks (b ∷ c ∷ d ∷ rest) = go (b == 45) refl (c == 45) refl
  where
    go : (dash : Bool) → (b == 45) ≡ dash → (second : Bool) → (c == 45) ≡ second
        → look_by (bytes_eq (b ∷ c ∷ d ∷ rest) (codes "--")) (long_of (b ∷ c ∷ d ∷ rest)) (short_of (b ∷ c ∷ d ∷ rest))
        ≡ look_of (b ∷ c ∷ d ∷ rest)
    go true e true f = rw (e, f) refl
    go true e false f = rw (e, f) refl
    go false e second f = rw e refl

look_seen : (word : Text) (dashes : Bool) (long : Option (Text × Option Text)) (short : Option Text) → bytes_eq word (codes "--") ≡ dashes
    → long_of word ≡ long → short_of word ≡ short
    → look_by dashes long short ≡ look_of word
look_seen word dashes long short d l sh = (λ i. look_by (sym d i) (sym l i) (sym sh i)) ∙ looks word

-- what the plain reading makes of the words, once the next one is read
abbrev answer_by : Syntax → List Text → Option Reading → Option (List Row)
answer_by s words r = option_map (map row_of) ((r >>= read_from s.options words) >>= given_of s)

abbrev reading_at : List Value → List Text → Option Text → Bool → Reading
reading_at given places waiting is_rest = record { given = given; places = places; waiting = waiting; is_rest = is_rest }

-- ---- a word where no option waits

-- a short option is a hyphen and more
short_is : (word flags : Text) → short_of word ≡ Some flags → (x : ℕ) × (xs : List ℕ) × (flags ≡ x ∷ xs) × (word ≡ 45 ∷ x ∷ xs)
short_is [] flags is = let bad : None ≡ Some flags = is in cc
short_is (b ∷ rest) flags is = go (b == 45) refl rest is
  where
    last : (x : ℕ) (xs : List ℕ) (dash : Bool) → (if dash then None else Some (x ∷ xs)) ≡ Some flags → flags ≡ x ∷ xs
    last x xs true e = let bad : None ≡ Some flags = e in cc
    last x xs false e = cc

    go : (dash : Bool) → (b == 45) ≡ dash → (rest : List ℕ) → short_of (b ∷ rest) ≡ Some flags
        → (x : ℕ) × (xs : List ℕ) × (flags ≡ x ∷ xs) × (b ∷ rest ≡ 45 ∷ x ∷ xs)
    go true e [] is = let bad : None ≡ Some flags = rw e at is in cc
    go true e (x ∷ xs) is = (x, xs, last x xs (x == 45) (rw e at is), ap (λ c. c ∷ x ∷ xs) (eqb-true b 45 e))
    go false e rest is = let bad : None ≡ Some flags = rw e at is in cc

flag_refused : (word : Text) (s : Syntax) (h : Held) (waiting : Waiting) (at : ℕ) (next : Text) (long : Option (Text × Option Text))
    (words : List Text) → bytes_eq next (codes "--") ≡ false → long_of next ≡ long
    → IsFault (flag_word_fault (rules_of s) false long next h) → outcome word s (walk_at h waiting at false) (next ∷ words) ≡ None
flag_refused word s h waiting at next long words dashes is fails =
    let turn : IsFault (turn_by word s h waiting at next false long) = fault_first (flag_word_fault (rules_of s) false long next h)
    (step_fault (shape_with word s) at (met_by s h waiting at next false long).0 (met_by s h waiting at next false long).1) fails in
    refused_at word s (walk_at h waiting at false) next words (
      turn.0,
      turn.1,
      turn_seen word s h waiting at next false long dashes is
          ∙ turn.2,
    )

letters_refused : (s : Syntax) (h : Held) (next flags : Text) → h.skip ≡ 0 → IsUtf8 next → short_of next ≡ Some flags
    → IsFault (flag_word_fault (rules_of s) false None next h)
letters_refused s h next flags none text short =
    let is = short_is next flags short in
    let some = some_letter is.0 is.1 (subst IsUtf8 is.3 text) in
    rw (short, is.2) (letters_fail s h is.0 is.1 some.0 some.1 none some.2)

-- an option that the command has
abbrev option_turn : Text → Syntax → Held → ℕ → Text → Option Text → Option Rule → Kinds
option_turn word s h at next value found =
    or_else (long_fault (rules_of s) false found value h)
    (step_fault (shape_with word s) at (after_flag (rules_of s) idle next (long_met (rules_of s) found value h).0
    (long_met (rules_of s) found value h).1).0
    (after_flag (rules_of s) idle next (long_met (rules_of s) found value h).0 (long_met (rules_of s) found value h).1).1)

abbrev option_walked : Syntax → Held → ℕ → Text → Option Text → Option Rule → Walk
option_walked s h at next value found =
    after_step (rules_of s) next (walk_at h idle at false) (after_flag (rules_of s) idle next (long_met (rules_of s) found value h).0
    (long_met (rules_of s) found value h).1).0
    (after_flag (rules_of s) idle next (long_met (rules_of s) found value h).0 (long_met (rules_of s) found value h).1).1

option_known : (s : Syntax) (name : Text) → is_option s.options name ≡ true → is_known s.places s.options name ≡ true
option_known s name known = rw known (go (list_any (λ p. bytes_eq p name) s.places))
  where
    go : (b : Bool) → (b || true) ≡ true
    go true = refl
    go false = refl

option_read : (word : Text) (s : Syntax) (rows : List Row) (pending : Option (Text × List Text)) (given : List Value)
    (front places : List Text) (at : ℕ) (next name : Text) (value : Option Text) (words : List Text)
    → front ++ places ≡ s.places → at ≡ 1 + length front → Settles s rows pending given → Reads word s words
    → bytes_eq next (codes "--") ≡ false → long_of next ≡ Some (name, value) → is_option s.options name ≡ true → has_repeat given ≡ false
    → outcome word s (walk_at (held rows pending) idle at false) (next ∷ words)
    ≡ answer_by s words (by_name true name value (reading_at given places None false))
option_read word s rows pending given front places at next name None words all is settles reads dashes long known once =
    let found = (long_found 1 s.places s.options name).known known in
    let rule : Rule = single (Some name) None found.0 name in
    let h : Held = held rows pending in
    goes_on word s (walk_at h idle at false) (walk_at (held (map row_of given) (Some (name, []))) (option name) at false) next words
    (turn_seen word s h idle at next false (Some (name, None)) dashes long ∙ ap (option_turn word s h at next None) found.1
    ∙ ap (λ x. or_else x []) (settles.passes once))
    (walked_seen s h idle at next false (Some (name, None)) dashes long ∙ ap (option_walked s h at next None) found.1
    ∙ ap (λ x. walk_at (held x (Some (name, []))) (option name) at false) (settles.gives once))
    ∙ reads.waits given name front places at all is once (option_known s name known)
option_read word s rows pending given front places at next name (Some v) words all is settles reads dashes long known once =
    go (has_repeat (given ++ (name, v) ∷ [])) refl
  where
    h : Held
    h = held rows pending

    after : Reading
    after = reading_at (given ++ (name, v) ∷ []) places None false

    found : (required : Bool) × (arg_by_long (rules_of s) name ≡ Some (single (Some name) None required name))
    found = (long_found 1 s.places s.options name).known known

    rule : Rule
    rule = single (Some name) None found.0 name

    uses : UsesOnce name v rule given
    uses = uses_once (Some name) None found.0 name v given once

    turn : turn_fault (shape_with word s) [] (walk_at h idle at false) next ≡ or_else (use_fault false rule (v ∷ []) (map row_of given)) []
    turn =
        turn_seen word s h idle at next false (Some (name, Some v)) dashes long
        ∙ ap (option_turn word s h at next (Some v)) found.1
        ∙ (λ i. or_else (or_else (settles.passes once i) (use_fault false rule (v ∷ []) (settles.gives once i))) [])

    step : has_repeat (given ++ (name, v) ∷ []) ≡ false → walked (rules_of s) [] (walk_at h idle at false) next
        ≡ walk_at (held (map row_of (given ++ (name, v) ∷ [])) None) idle at false
    step e =
        walked_seen s h idle at next false (Some (name, Some v)) dashes long
        ∙ ap (option_walked s h at next (Some v)) found.1
        ∙ ap (λ x. walk_at (held (used rule (v ∷ []) x) None) idle at false) (settles.gives once)
        ∙ ap (λ x. walk_at (held x None) idle at false) (uses.gives e)

    go : (b : Bool) → has_repeat (given ++ (name, v) ∷ []) ≡ b → outcome word s (walk_at h idle at false) (next ∷ words)
        ≡ answer s words after
    go true e =
        let fails = fault_first (use_fault false rule (v ∷ []) (map row_of given)) [] (uses.fails e) in
        refused_at word s (walk_at h idle at false) next words (fails.0, fails.1, turn ∙ fails.2) ∙ sym (refused_repeat s words after e)
    go false e =
        goes_on word s (walk_at h idle at false) (walk_at (held (map row_of (given ++ (name, v) ∷ [])) None) idle at false) next words
        (turn ∙ ap (λ x. or_else x []) (uses.passes e)) (step e)
        ∙ reads.idles (map row_of (given ++ (name, v) ∷ [])) None (given ++ (name, v) ∷ []) front places at false all is
        (none_settles s (given ++ (name, v) ∷ []) e)

named_read : (word : Text) (s : Syntax) (rows : List Row) (pending : Option (Text × List Text)) (given : List Value)
    (front places : List Text) (at : ℕ) (next name : Text) (value : Option Text) (words : List Text)
    → front ++ places ≡ s.places → at ≡ 1 + length front → Settles s rows pending given → Reads word s words
    → bytes_eq next (codes "--") ≡ false → long_of next ≡ Some (name, value)
    → outcome word s (walk_at (held rows pending) idle at false) (next ∷ words)
    ≡ answer_by s words (by_name (is_option s.options name) name value (reading_at given places None false))
named_read word s rows pending given front places at next name value words all is settles reads dashes long =
    go (is_option s.options name) refl (has_repeat given) refl
  where
    h : Held
    h = held rows pending

    r : Reading
    r = reading_at given places None false

    refuses : (b : Bool) → has_repeat given ≡ true → answer_by s words (by_name b name value r) ≡ None
    refuses b e = none_repeats s words (by_name b name value r) (name_repeats b name value r e)

    go : (b : Bool) → is_option s.options name ≡ b → (again : Bool) → has_repeat given ≡ again
        → outcome word s (walk_at h idle at false) (next ∷ words) ≡ answer_by s words (by_name (is_option s.options name) name value r)
    go false known again e = flag_refused word s h idle at next (Some (name, value)) words dashes long (unknown_fails s h name value known)
        ∙ ap (λ b. answer_by s words (by_name b name value r)) (sym known)
    go true known true e = flag_refused word s h idle at next (Some (name, value)) words dashes long
        (settle_fails s h name value known (settles.fails e)) ∙ sym (refuses (is_option s.options name) e)
    go true known false e = option_read word s rows pending given front places at next name value words all is settles reads dashes long
        known e ∙ ap (λ b. answer_by s words (by_name b name value r)) (sym known)

-- each word where no option waits
idle_read : (word : Text) (s : Syntax) (rows : List Row) (pending : Option (Text × List Text)) (given : List Value)
    (front places : List Text) (at : ℕ) (is_rest : Bool) (next : Text) (words : List Text)
    → length s.places ≤ 2 → IsUtf8 next → front ++ places ≡ s.places → at ≡ 1 + length front → Settles s rows pending given
    → Reads word s words
    → outcome word s (walk_at (held rows pending) idle at is_rest) (next ∷ words)
    ≡ answer s (next ∷ words) (reading_at given places None is_rest)
unfolding walked
idle_read word s rows pending given front places at true next words few text all is settles reads =
    placed word s rows pending given front places at true next words few all is settles reads refl refl
idle_read word s rows pending given front places at false next words few text all is settles reads =
    go (bytes_eq next (codes "--")) refl (long_of next) refl (short_of next) refl
  where
    h : Held
    h = held rows pending

    w : Walk
    w = walk_at h idle at false

    r : Reading
    r = reading_at given places None false

    go : (dashes : Bool) → bytes_eq next (codes "--") ≡ dashes → (long : Option (Text × Option Text)) → long_of next ≡ long
        → (short : Option Text) → short_of next ≡ short
        → outcome word s w (next ∷ words) ≡ answer_by s words (by_look s.options (look_of next) next r)
    go true d long l short sh =
        goes_on word s w (walk_at h idle at true) next words (turn_seen word s h idle at next true long d l)
        (walked_seen s h idle at next true long d l)
        ∙ reads.idles rows pending given front places at true all is settles
        ∙ ap (λ look. answer_by s words (by_look s.options look next r)) (look_seen next true long short d l sh)
    go false d (Some parts) l short sh =
        named_read word s rows pending given front places at next parts.0 parts.1 words all is settles reads d l
        ∙ ap (λ look. answer_by s words (by_look s.options look next r)) (look_seen next false (Some parts) short d l sh)
    go false d None l (Some flags) sh =
        flag_refused word s h idle at next None words d l (letters_refused s h next flags refl text sh)
        ∙ ap (λ look. answer_by s words (by_look s.options look next r)) (look_seen next false None (Some flags) d l sh)
    go false d None l None sh =
        placed word s rows pending given front places at false next words few all is settles reads
        (turn_seen word s h idle at next false None d l
        ∙ ap (λ short. or_else (option_map_or (λ flags. bundle_fault (rules_of s) false flags h) short [])
        (step_fault (shape_with word s) at (short_or_plain (rules_of s) idle next short h).0
        (short_or_plain (rules_of s) idle next short h).1)) sh)
        (walked_seen s h idle at next false None d l
        ∙ ap (λ short. after_step (rules_of s) next w (short_or_plain (rules_of s) idle next short h).0
        (short_or_plain (rules_of s) idle next short h).1) sh)
        ∙ ap (λ look. answer_by s words (by_look s.options look next r)) (look_seen next false None None d l sh)

-- ---- a word where an option waits

waiting_fails : (s : Syntax) (rows : List Row) (name : Text) → is_known s.places s.options name ≡ true
    → IsFault (settle_fault (rules_of s) false (held rows (Some (name, []))))
waiting_fails s rows name known =
    let found = id_found 1 s.places s.options name known in
    rw (found.3) (InvalidValue, [], refl)

-- an option that has no word before `--` has none
hung : (word : Text) (s : Syntax) (rows : List Row) (name : Text) (front places : List Text) (at : ℕ) (words : List Text)
    → front ++ places ≡ s.places → at ≡ 1 + length front → is_known s.places s.options name ≡ true
    → outcome word s (walk_at (held rows (Some (name, []))) (option name) at true) words ≡ None
unfolding walk_fault
hung word s rows name front places at [] all is known =
    ap (λ kinds. settled_by word s kinds (settled_rows (rules_of s) (Some (name, [])) rows)) (waiting_fails s rows name known).2
hung word s rows name front [] at (next ∷ words) all is known =
    let h : Held = held rows (Some (name, [])) in
    refused_at word s (walk_at h (option name) at true) next words (
      UnknownArgument,
      [],
      ap (place_fault s h) (no_place_at s front at all is),
    )
hung word s rows name front (place ∷ more) at (next ∷ words) all is known =
    let h : Held = held rows (Some (name, [])) in
    let fails = waiting_fails s rows name known in
    refused_at word s (walk_at h (option name) at true) next words (
      fails.0,
      fails.1,
      ap (place_fault s h) (place_at s front place more at all is)
          ∙ ap (λ b. if b then [] else settle_fault (rules_of s) false h)
          (and_right (is_pending (single None (Some at) true place) (Some (name, []))) false refl)
          ∙ fails.2,
    )

wait_read : (word : Text) (s : Syntax) (given : List Value) (name : Text) (front places : List Text) (at : ℕ) (next : Text)
    (words : List Text)
    → IsUtf8 next → front ++ places ≡ s.places → at ≡ 1 + length front → has_repeat given ≡ false → is_known s.places s.options name ≡ true
    → Reads word s words
    → outcome word s (walk_at (held (map row_of given) (Some (name, []))) (option name) at false) (next ∷ words)
    ≡ answer s (next ∷ words) (reading_at given places (Some name) false)
wait_read word s given name front places at next words text all is once known reads =
    go (bytes_eq next (codes "--")) refl (long_of next) refl (short_of next) refl
  where
    h : Held
    h = held (map row_of given) (Some (name, []))

    w : Walk
    w = walk_at h (option name) at false

    r : Reading
    r = reading_at given places (Some name) false

    found : IsSingle name (arg_by_id (rules_of s) name)
    found = id_found 1 s.places s.options name known

    named_fails : (n : Text) (value : Option Text) (b : Bool) → is_option s.options n ≡ b
        → IsFault (long_fault (rules_of s) false (arg_by_long (rules_of s) n) value h)
    named_fails n value true e = settle_fails s h n value e (waiting_fails s (map row_of given) name known)
    named_fails n value false e = unknown_fails s h n value e

    go : (dashes : Bool) → bytes_eq next (codes "--") ≡ dashes → (long : Option (Text × Option Text)) → long_of next ≡ long
        → (short : Option Text) → short_of next ≡ short
        → outcome word s w (next ∷ words) ≡ answer_by s words (as_value (look_of next) name next r)
    go true d long l short sh =
        goes_on word s w (walk_at h (option name) at true) next words (turn_seen word s h (option name) at next true long d l)
        (walked_seen s h (option name) at next true long d l)
        ∙ hung word s (map row_of given) name front places at words all is known
        ∙ ap (λ look. answer_by s words (as_value look name next r)) (look_seen next true long short d l sh)
    go false d (Some parts) l short sh =
        flag_refused word s h (option name) at next (Some parts) words d l (named_fails parts.0 parts.1 (is_option s.options parts.0) refl)
        ∙ ap (λ look. answer_by s words (as_value look name next r)) (look_seen next false (Some parts) short d l sh)
    go false d None l (Some flags) sh =
        flag_refused word s h (option name) at next None words d l (letters_refused s h next flags refl text sh)
        ∙ ap (λ look. answer_by s words (as_value look name next r)) (look_seen next false None (Some flags) d l sh)
    go false d None l None sh =
        goes_on word s w (walk_at (held (map row_of given) (Some (name, next ∷ []))) idle at false) next words
        (turn_seen word s h (option name) at next false None d l
        ∙ ap (λ short. or_else (option_map_or (λ flags. bundle_fault (rules_of s) false flags h) short [])
        (step_fault (shape_with word s) at (short_or_plain (rules_of s) (option name) next short h).0
        (short_or_plain (rules_of s) (option name) next short h).1)) sh)
        (walked_seen s h (option name) at next false None d l
        ∙ ap (λ short. after_step (rules_of s) next w (short_or_plain (rules_of s) (option name) next short h).0
        (short_or_plain (rules_of s) (option name) next short h).1) sh
        ∙ ap (λ rule. walk_at (option_word rule name next h).0 (option_word rule name next h).1 at false) found.3
        ∙ ap (λ b. walk_at (held (map row_of given) (Some (name, next ∷ []))) (if nat_lt (if b then 1 else 0) 1 then option name
        else idle) at false) ((bytes_eq-Decides name name).1 refl))
        ∙ reads.idles (map row_of given) (Some (name, next ∷ [])) (given ++ (name, next) ∷ []) front places at false all is
        (pending_settles s name next given known once)
        ∙ ap (λ look. answer_by s words (as_value look name next r)) (look_seen next false None None d l sh)

-- ---- all words

reads : (word : Text) (s : Syntax) (words : List Text) → length s.places ≤ 2 → All IsUtf8 words → Reads word s words
unfolding walk_fault
reads word s [] few texts = record {
  idles = λ rows pending given front places at is_rest all is settles. ends word s rows pending idle at
      (reading_at given places None is_rest) refl settles;
  waits = λ given name front places at all is once known.
      ap (λ kinds. settled_by word s kinds (settled_rows (rules_of s) (Some (name, [])) (map row_of given)))
      (waiting_fails s (map row_of given) name known).2;
}
reads word s (next ∷ words) few texts =
    let text : IsUtf8 next = texts 0 next (omega arith) in
    let more : Reads word s words = reads word s words few (λ k d low. texts (suc k) d (omega arith)) in
    record {
      idles = λ rows pending given front places at is_rest all is settles.
          idle_read word s rows pending given front places at is_rest next words few text all is settles more;
      waits = λ given name front places at all is once known.
          wait_read word s given name front places at next words text all is once known more;
    }

few_places : (verb : Verb) → length (syntax_of verb).places ≤ 2
few_places Hls = omega arith
few_places Dash = omega arith
few_places Follow = omega arith
few_places Show = omega arith
few_places Check = omega arith
few_places Reload = omega arith
few_places Make = omega arith
few_places HlsIndex = omega arith
few_places DashTimes = omega arith
few_places Agree = omega arith
few_places FollowHls = omega arith
few_places FollowHlsTimes = omega arith
few_places Compare = omega arith

behind_first : (verb : Verb) (first : Text) (words : List Text) → argument_words (app_of_verb verb) (first ∷ words) ≡ words
behind_first Hls first words = refl
behind_first Dash first words = refl
behind_first Follow first words = refl
behind_first Show first words = refl
behind_first Check first words = refl
behind_first Reload first words = refl
behind_first Make first words = refl
behind_first HlsIndex first words = refl
behind_first DashTimes first words = refl
behind_first Agree first words = refl
behind_first FollowHls first words = refl
behind_first FollowHlsTimes first words = refl
behind_first Compare first words = refl

none_entered : (word : Text) (s : Syntax) (stop : Option (Text × List Text)) → entered (app_with word s) stop ≡ None
none_entered word s None = refl
none_entered word s (Some p) = refl

none_entered_fails : (word : Text) (s : Syntax) (stop : Option (Text × List Text)) → entered_fault (app_with word s) stop ≡ []
none_entered_fails word s None = refl
none_entered_fails word s (Some p) = refl

values_read : (verb : Verb) (first : Text) (words : List Text) → All IsUtf8 words
    → values_of verb (first ∷ words) ≡ option_map (map row_of) (given_by (syntax_of verb) words)
unfolding values_of
values_read verb first words texts =
    let s = syntax_of verb in
    let word = word_of verb in
    let top : Shape = shape_with word s in
    let stop : Option (Text × List Text) = (walk top.rules [] nothing_held words).stopped in
    ap (λ app. unless_at_fault (built_fault app nothing_held (argument_words (app_of_verb verb) (first ∷ words)))
    (rows_after app.top.rules (names_of app) (argument_words (app_of_verb verb) (first ∷ words)))) (is_built verb)
    ∙ ap (λ words. unless_at_fault (built_fault (app_with word s) nothing_held words) (rows_after top.rules [] words))
    (behind_first verb first words)
    ∙ (λ i. unless_at_fault (level_fault top [] nothing_held words (is_some (none_entered word s stop i))
    (none_entered_fails word s stop i)) (rows_after top.rules [] words))
    ∙ (reads word s words (few_places verb) texts).idles [] None [] [] s.places 1 false refl (omega arith) (none_settles s [] refl)

job_read : (words : List Text) → All IsUtf8 words → job_of words ≡ read_job words
unfolding job_of
job_read [] texts = refl
job_read (first ∷ words) texts = go (verb_of first)
  where
    by_values : (verb : Verb) (given : Option (List Value)) → (option_map (map row_of) given >>= job_by verb)
        ≡ (given >>= λ given. job_by verb (map row_of given))
    by_values verb None = refl
    by_values verb (Some given) = refl

    go : (verb : Option Verb) → (verb >>= λ verb. values_of verb (first ∷ words) >>= job_by verb)
        ≡ (verb >>= λ verb. given_by (syntax_of verb) words >>= λ given. job_by verb (map row_of given))
    go None = refl
    go (Some verb) =
        ap (λ rows. rows >>= job_by verb) (values_read verb first words (λ k d low. texts (suc k) d (omega arith)))
        ∙ by_values verb (given_by (syntax_of verb) words)

value_found : (name : Text) (given : List Value) → first_of name (map row_of given) ≡ value_of name given
value_found name [] = refl
value_found name (v ∷ given) = go (bytes_eq v.0 name) refl (value_found name given)
  where
    go : (b : Bool) → bytes_eq v.0 name ≡ b → first_of name (map row_of given) ≡ value_of name given
        → first_of name (map row_of (v ∷ given)) ≡ value_of name (v ∷ given)
    go true e next = rw e refl
    go false e next = rw e next

pub command_lines_read : CommandLinesAreRead
command_lines_read = record { jobs = job_read; values = value_found }
