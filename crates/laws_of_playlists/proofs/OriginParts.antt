-- The addresses and ranges of an MPD.
use Rattle.template_ids.specs.Templates as templates
use Rattle.timeline.specs.declared.names.Names.TheVariants as names
use Rattle.mpd_profile.specs.declared.listed.Listed.TheVariants as listed
use Rattle.mpd_levels.specs.declared.level.Means.TheVariants as means
use Rattle.mpd_rules.specs.Typed as typed
use Rattle.std.proofs.Common.{◌≡◌, ℕ, zero, suc, ◌-◌, ◌<◌, ◌==◌, ◌%◌, ◌/◌, Bool, true, false, List, [], ◌∷◌, ◌++◌, All, length, map}
use Rattle.std.proofs.Common.{slice_get, Option, Some, None, Result, Ok, Err, IfSome, nat_lt, refl, sym, ◌∙◌, ap, subst, inl, inr, arith}
use Rattle.std.proofs.{lemmas.Bool.cases_Bool, lemmas.Bool.Decides.nat_tests}
use Rattle.std.proofs.lemmas.List.Elements.{All-append, All-cons, All-filter, All-head, All-map, All-nil, All-replicate, All-tail}
use Rattle.std.proofs.{lemmas.List.Elements.All-weaker, lemmas.List.Sums.AllPass-from_list_all}
use Rattle.std.specs.Prelude.{bytes_eq, codes, decimal, find, option_and_then, option_map, unwrap_or, not, if◌then◌else◌}
use Rattle.std.specs.{List.{cons_option, list_all}, Fmt.{digit_glyph, digits, digits_onto}}
use Rattle.url.specs.{Parser.{Parsed, parse_url, split_scheme}, Input.{split_once, strip_tabs_and_new_lines, trim_c0_control_and_space}}
use Rattle.url.specs.{Scheme.scheme_len, Parts.Parts}
use Rattle.bridge_io.proofs.AndThen.{steps_of}
use Rattle.bridge_io.specs.Answer.{and_then, gathered, told_as}
use Rattle.url_parts.specs.{declared.fault.UrlFault.UrlFault, declared.fault.UrlFault.TheVariants.{Refused, Scheme, TooLong}}
use Rattle.url_parts.specs.{declared.address.Part.Part, declared.range.Range.Range}
use Rattle.url_parts.specs.Addresses.{IsAddress, is_absolute, url_of as url_at, absolute, accepted, accepted_url, chain, is_address_byte}
use Rattle.url_parts.specs.Addresses.{is_web, resolve, resolve_more, text_of}
use Rattle.url_parts.proofs.Parsed.{resolved_is_address}
use Rattle.template_ids.specs.{declared.fault.TemplateFault.TemplateFault, declared.identifier.Identifier.Identifier}
use Rattle.template_ids.specs.{declared.identifier.Identifier.TheVariants.{Dollar, Padded, RepresentationId}, declared.ids.Ids.Ids}
use Rattle.template_ids.specs.Identifiers.{identifier_of}
use Rattle.template_ids.specs.Templates.{is_dollar, named, parts_of, quantity, replaced, template_fault, template_of, value_if_ok}
use Rattle.template_ids.specs.Templates.{value_of}
use Rattle.timeline.specs.{declared.entry.End.End, declared.names.Names.Names, Expansions.SegmentTimeline, Listed.media_time}
use Rattle.timeline.specs.{Names.{listed_part, part_at, part_of, referred}, OpenEnds.{DurationsEnd, TimelinesEnd}}
use Rattle.mpd_entries.specs.{declared.entry.SEntry.SEntry, declared.ref_part.RefPart.RefPart}
use Rattle.timeline.proofs.OpenEnds.{no_fault}
use Rattle.mpd_values.specs.{declared.blank.Blank.TheVariants.SpaceOrLineEnd, Blanks.trimmed}
use Rattle.mpd_tree.specs.{Trees.{Attribute, Element, Forest, Head, element, nothing}, Views.{attribute_named, side_by_side}}
use Rattle.mpd_profile.specs.{declared.listed.Addressing.TheVariants.Segments as OneByOne, declared.listed.Listed.Listed}
use Rattle.mpd_profile.specs.Heads.{is_named, value_named}
use Rattle.mpd_levels.specs.{declared.initialization.Initialization.Initialization, declared.level.Means.Means}
use Rattle.mpd_levels.specs.{Levels.{elements_used, first_some, list_name, template_name, used}, Readings.{child_named, children_named}}
use Rattle.mpd_levels.specs.Segments.{Segments, attributes_by, if_any, initialization_in, initialization_of, of_list, of_template}
use Rattle.mpd_levels.specs.Segments.{segments_by, segments_of, told, unless_there, url_of, urls_by, urls_in, values_in}
use Rattle.mpd_rules.specs.declared.rows.Description.{Description}
use Rattle.mpd_rules.specs.Kept.{Path, is_kept, kept_children, levels_of, path_in, paths_of, periods_of, representations_of, sets_of}
use Rattle.mpd_rules.specs.{Readings.{base_in, base_reference}, Typed.{bases_below, common_at, description_in}}
use Rattle.mpd_rules.proofs.Ranges.{named_some}
use Rattle.presentation.specs.{declared.fault.PresentationFault.PresentationFault, declared.parts.Content.Content}
use Rattle.presentation.specs.{Presented.{IsEnded, Presented}, Meanings.part_with}
use Rattle.mpd_presentation.specs.{Origins.CameFromStaticMpd, Rows.{Period, Row}, Scales.scale_of}
use Rattle.mpd_presentation.specs.Told.{all_told, at_url, base_of, content_of, end_of, init_of, init_reference, init_template_of}
use Rattle.mpd_presentation.specs.Told.{initialization_of as initialization_told, media_of, names_of, one_told, period_told, runs_of}
use Rattle.mpd_presentation.specs.Told.{segments_in, some_init, timeline_by, told_in_order, told_of, unless_segments, untold}
use Rattle.presentation.proofs.Filling.{all_in_order, ok_under}
use Rattle.mpd_presentation.proofs.{Ending.all_ended, Pace.{IsSound, duration_sound, entries_sound}}
use Rattle.laws_of_playlists.specs.Origins.{AreLocated, AreOfBytes, CameFromMpd, IsByte, IsElementOfBytes, IsFound, IsHeadOfBytes}
use Rattle.laws_of_playlists.specs.Origins.{IsLocated, IsOfBytes, IsSomeBytes, InitializationsAreLocated, OwnTextsAreAddresses}
use Rattle.laws_of_playlists.specs.Origins.{PartsAreLocated, of_static}
use Rattle.laws_of_playlists.proofs.{OriginCodes.{All-trimmed, parts_hold}, OriginKept.{clean, paths_hold}}
use Rattle.laws_of_playlists.proofs.OriginTracks.{Told, each_row, of_mpd, or_there}

-- ---- the text of an address

address_byte : (b : ℕ) → is_address_byte b ≡ true → IsByte b
address_byte b is = grind (arith, nat_tests)

if_not : {X E : Type 0} (b : Bool) (e : E) (r : Result X E) (x : X) → (if not b then Err e else r) ≡ Ok x → (b ≡ true) × (r ≡ Ok x)
if_not true e r x is = (refl, is)
if_not false e r x is = absurd (cc)

unless_long : (b : Bool) (text address : List ℕ) → (if b then Err TooLong else Ok text) ≡ Ok address → text ≡ address
unless_long true text address is = absurd (cc)
unless_long false text address is = cc

accepted_bytes : (url : Parts) (address : List ℕ) → accepted_url url ≡ Ok address → IsOfBytes address
accepted_bytes url address is =
    let web : Result (List ℕ) UrlFault = if nat_lt 2048 (length (text_of url)) then Err TooLong else Ok (text_of url) in
    let first = if_not (list_all is_address_byte (text_of url)) Refused (if not (is_web url.scheme) then Err Scheme else web) address is in
    let second = if_not (is_web url.scheme) Scheme web address first.1 in
    subst IsOfBytes (unless_long (nat_lt 2048 (length (text_of url))) (text_of url) address second.1)
    (All-weaker (λ b. is_address_byte b ≡ true) IsByte address_byte (text_of url)
    (AllPass-from_list_all is_address_byte (text_of url) first.0))

parsed_bytes : (r : Parsed Parts) (address : List ℕ) → accepted r ≡ Ok address → IsOfBytes address
parsed_bytes (Ok url) address is = accepted_bytes url address is
parsed_bytes (Err e) address is = absurd (cc)

own_bytes : (address : List ℕ) → absolute address ≡ Ok address → IsOfBytes address
unfolding absolute
own_bytes address is = parsed_bytes (parse_url None address) address is

pub address_bytes : (address : List ℕ) → IsAddress address → IsOfBytes address
address_bytes address is = own_bytes address is.normal

no_base : url_at [] ≡ None
unfolding parse_url split_once split_scheme scheme_len trim_c0_control_and_space strip_tabs_and_new_lines
no_base = refl

without_base : (text : List ℕ) → is_absolute text ≡ false → resolve [] text ≡ absolute text
unfolding resolve absolute
without_base text other = rw (other, no_base) refl

with_scheme : (text : List ℕ) → is_absolute text ≡ true → resolve [] text ≡ absolute text
unfolding resolve
with_scheme text is = rw is refl

pub own_texts_are_addresses : OwnTextsAreAddresses
own_texts_are_addresses text is =
    let same : resolve [] text ≡ absolute text = elim (cases_Bool (is_absolute text)) [
      | inl web ↦ with_scheme text web
      | inr other ↦
          without_base text other
    ] in
    resolved_is_address [] text text (All-nil IsByte) (own_bytes text is) (same ∙ is)

pub referred_is_address : (base : List ℕ) (reference : Option (List ℕ)) (address : List ℕ) → IsAddress base
    → IfSome reference IsOfBytes → referred base reference ≡ Ok address → IsAddress address
referred_is_address base None address is bytes made = (let same : base ≡ address = cc in subst IsAddress same is)
referred_is_address base (Some reference) address is bytes made = resolved_is_address base reference address
    (address_bytes base is) bytes made

chained_behind : (r : Result (List ℕ) UrlFault) (references : List (List ℕ)) (address : List ℕ)
    → ((next : List ℕ) → r ≡ Ok next → IsAddress next)
    → ((next : List ℕ) → IsAddress next → chain next references ≡ Ok address → IsAddress address)
    → resolve_more (λ next. chain next references) r ≡ Ok address → IsAddress address
chained_behind (Ok next) references address first later made = later next (first next refl) made
chained_behind (Err fault) references address first later made = absurd (cc)

pub chain_is_address : (references : List (List ℕ)) (base address : List ℕ) → IsAddress base → All IsOfBytes references
    → chain base references ≡ Ok address → IsAddress address
chain_is_address [] base address is bytes made = (let same : base ≡ address = cc in subst IsAddress same is)
chain_is_address (reference ∷ references) base address is bytes made =
    chained_behind (resolve base reference) references address
    (λ next told. resolved_is_address base reference next (address_bytes base is) (All-head IsOfBytes reference references bytes) told)
    (λ next is told. chain_is_address references next address is (All-tail IsOfBytes reference references bytes) told) made

-- ---- what a template names

glyph : (d : ℕ) → d < 10 → digit_glyph false d < 256
glyph d below = grind (arith, nat_tests)

digits_bytes : (k n : ℕ) (acc : List ℕ) → IsOfBytes acc → IsOfBytes (digits_onto k 10 false n acc)
digits_bytes zero n acc all = all
digits_bytes (suc k) n acc all =
    let one = All-cons IsByte (digit_glyph false (n % 10)) acc (glyph (n % 10) (omega arith)) all in
    elim (cases_Bool (n / 10 == 0)) [
      | inl last ↦ rw last one
      | inr more ↦
          rw more (digits_bytes k (n / 10) (digit_glyph false (n % 10) ∷ acc) one)
    ]

decimal_bytes : (n : ℕ) → IsOfBytes (decimal n)
unfolding digits
decimal_bytes n = digits_bytes 64 n [] (All-nil IsByte)

value_bytes : (ids : Ids) (identifier : Identifier) → IsOfBytes ids.id → IsOfBytes (value_of ids identifier)
value_bytes ids Dollar id = All-cons IsByte 36 [] (omega arith) (All-nil IsByte)
value_bytes ids RepresentationId id = id
value_bytes ids (Padded q width) id = All-append IsByte _ _ (All-replicate IsByte _ 48 (omega arith)) (decimal_bytes (quantity ids q))

ok_bytes : (ids : Ids) (r : Result Identifier TemplateFault) → IsOfBytes ids.id → IsOfBytes (value_if_ok ids r)
ok_bytes ids (Ok identifier) id = value_bytes ids identifier id
ok_bytes ids (Err fault) id = All-nil IsByte

replaced_bytes : (ids : Ids) (parts : List (List ℕ)) → IsOfBytes ids.id → All IsOfBytes parts → IsOfBytes (replaced ids parts)
replaced_bytes ids [] id all = All-nil IsByte
replaced_bytes ids (literal ∷ []) id all = All-head IsOfBytes literal [] all
replaced_bytes ids (literal ∷ identifier ∷ parts) id all =
    All-append IsByte literal _ (All-head IsOfBytes literal (identifier ∷ parts) all)
    (All-append IsByte _ (replaced ids parts) (ok_bytes ids (identifier_of identifier) id)
    (replaced_bytes ids parts id (All-tail IsOfBytes identifier parts (All-tail IsOfBytes literal (identifier ∷ parts) all))))

named_bytes : (text : List ℕ) (ids : Ids) → IsOfBytes text → IsOfBytes ids.id → IsOfBytes (named text ids)
named_bytes text ids bytes id = replaced_bytes ids (parts_of text) id
    (parts_hold is_dollar IsByte text (λ k d within other. bytes k d within))

-- ---- what an element of bytes says

found : {X : Type 0} (P : X → Type 0) (test : X → Bool) (xs : List X) → All P xs → IfSome (find test xs) P
found P test [] all = tt
found P test (x ∷ xs) all = elim (cases_Bool (test x)) [
  | inl here ↦ rw here (All-head P x xs all)
  | inr other ↦
      rw other (found P test xs (All-tail P x xs all))
]

pub mapped : {X Y : Type 0} (f : X → Y) (P : X → Type 0) (Q : Y → Type 0) → ((x : X) → P x → Q (f x)) → (o : Option X) → IfSome o P
    → IfSome (option_map f o) Q
mapped f P Q each None is = tt
mapped f P Q each (Some x) is = each x is

value_is : (name : List ℕ) (head : Head) → IsHeadOfBytes head → IfSome (value_named name head) IsOfBytes
value_is name head is = mapped (λ (a : Attribute). a.value) (λ a. IsOfBytes a.value) IsOfBytes (λ a of. of)
    (attribute_named name head.attributes) (found (λ (a : Attribute). IsOfBytes a.value)
    (λ a. bytes_eq a.name name) head.attributes is.values)

beside : (children : Forest) → AreOfBytes children → All IsElementOfBytes (side_by_side children)
beside nothing are = All-nil IsElementOfBytes
beside (element head children others) are = All-cons IsElementOfBytes _ (side_by_side others) (record { head = are.0; children = are.1 })
    (beside others are.2)

pub child_is : (name : List ℕ) (e : Element) → IsElementOfBytes e → IfSome (child_named name e) IsElementOfBytes
child_is name e is = found IsElementOfBytes (is_named name) (side_by_side e.children) (beside e.children is.children)

children_are : (name : List ℕ) (e : Element) → IsElementOfBytes e → All IsElementOfBytes (children_named name e)
children_are name e is = All-filter (is_named name) IsElementOfBytes (side_by_side e.children) (beside e.children is.children)

reference_is : (e : Element) → IsElementOfBytes e → IfSome (base_reference e) IsOfBytes
reference_is e is = mapped (λ (base : Element). trimmed SpaceOrLineEnd base.head.text) IsElementOfBytes IsOfBytes
    (λ base of. All-trimmed SpaceOrLineEnd IsByte base.head.text of.head.text) (base_in e) (child_is (codes "BaseURL") e is)

below : (above : List (List ℕ)) (e : Element) → All IsOfBytes above → IsElementOfBytes e → All IsOfBytes (bases_below above e)
below above e are is = with_one (base_reference e) (reference_is e is)
  where
    with_one : (o : Option (List ℕ)) → IfSome o IsOfBytes → All IsOfBytes (typed.and_one above o)
    with_one None one = are
    with_one (Some text) one = All-append IsOfBytes above (text ∷ []) are (All-cons IsOfBytes text [] one (All-nil IsOfBytes))

-- ---- segments

-- a SegmentURL
pub record IsUrlOfBytes (url : RefPart) : Type 0 where
  pub reference : IfSome url.reference IsOfBytes
  pub range : IfSome url.range IsSomeBytes

pub record AreSegmentsOfBytes (s : Segments) : Type 0 where
  pub media : IfSome s.media IsOfBytes
  pub urls : IfSome s.urls (All IsUrlOfBytes)
  pub init_template : IfSome s.init_template IsOfBytes
  pub init_reference : IfSome s.init_reference IsOfBytes
  pub init_range : IfSome s.init_range IsSomeBytes

pub first_found : {Y : Type 0} (P : Y → Type 0) (value : Element → Option Y) → ((e : Element) → IsElementOfBytes e → IfSome (value e) P)
    → (es : List Element) → All IsElementOfBytes es → IfSome (first_some value es) P
first_found P value each [] all = tt
first_found P value each (e ∷ es) all =
    or_there (value e) (first_some value es) P (each e (All-head IsElementOfBytes e es all))
    (first_found P value each es (All-tail IsElementOfBytes e es all))

onto : (o : Option Element) (es : List Element) → IfSome o IsElementOfBytes → All IsElementOfBytes es
    → All IsElementOfBytes (cons_option o es)
onto None es one all = all
onto (Some e) es one all = All-cons IsElementOfBytes e es one all

elements_are : (name : List ℕ) (levels : List Element) → All IsElementOfBytes levels → All IsElementOfBytes (elements_used name levels)
elements_are name [] all = All-nil IsElementOfBytes
elements_are name (level ∷ levels) all =
    onto (child_named name level) (elements_used name levels) (child_is name level (All-head IsElementOfBytes level levels all))
    (elements_are name levels (All-tail IsElementOfBytes level levels all))

of_one : {X : Type 0} (P : X → Type 0) (b : Bool) (o : Option X) → IfSome o P → IfSome (of_template b o) P
of_one P true o is = tt
of_one P false o is = is

of_other : {X : Type 0} (P : X → Type 0) (b : Bool) (o : Option X) → IfSome o P → IfSome (of_list b o) P
of_other P true o is = is
of_other P false o is = tt

some_urls : (urls : List RefPart) → All IsUrlOfBytes urls → IfSome (if_any urls) (All IsUrlOfBytes)
some_urls [] all = tt
some_urls (url ∷ urls) all = all

url_is : (e : Element) → IsElementOfBytes e → IsUrlOfBytes (url_of e)
url_is e is = record { reference = value_is (codes "media") e.head is.head; range = named_some (value_named (codes "mediaRange") e.head) }

urls_are : (e : Element) → IsElementOfBytes e → IfSome (urls_in e) (All IsUrlOfBytes)
urls_are e is =
    let urls = children_named (codes "SegmentURL") e in
    some_urls (map url_of urls) (All-map IsUrlOfBytes url_of urls
    (All-weaker IsElementOfBytes (λ url. IsUrlOfBytes (url_of url)) url_is urls (children_are (codes "SegmentURL") e is)))

-- an Initialization
pub record IsInitializationOfBytes (i : Initialization) : Type 0 where
  pub reference : IfSome i.reference IsOfBytes
  pub range : IfSome i.range IsSomeBytes

pub initialization_is : (e : Element) → IsElementOfBytes e → IfSome (initialization_in e) IsInitializationOfBytes
initialization_is e is =
    mapped initialization_of IsElementOfBytes IsInitializationOfBytes
    (λ i of. record { reference = value_is (codes "sourceURL") i.head of.head; range = named_some (value_named (codes "range") i.head) })
    (child_named (codes "Initialization") e) (child_is (codes "Initialization") e is)

unless_is : {X Y : Type 0} (P : Y → Type 0) (o : Option X) (value : Option Y) → IfSome value P → IfSome (unless_there o value) P
unless_is P (Some x) value is = tt
unless_is P None value is = is

pub inside : {X Y : Type 0} (f : X → Option Y) (P : X → Type 0) (Q : Y → Type 0) → ((x : X) → P x → IfSome (f x) Q) → (o : Option X)
    → IfSome o P → IfSome (option_and_then f o) Q
inside f P Q each None is = tt
inside f P Q each (Some x) is = each x is

told_bytes : (b : Bool) (es : List Element) → All IsElementOfBytes es → AreSegmentsOfBytes (told b (values_in b es))
told_bytes b es all =
    let said = values_in b es in
    let initialization = first_found IsInitializationOfBytes initialization_in initialization_is es all in
    record {
      media = first_found IsOfBytes (λ e. (attributes_by b e.head).media)
          (λ e is. of_one IsOfBytes b (value_named (codes "media") e.head) (value_is (codes "media") e.head is.head)) es all;
      urls = first_found (All IsUrlOfBytes) (urls_by b) (λ e is. of_other (All IsUrlOfBytes) b (urls_in e) (urls_are e is)) es all;
      init_template = first_found IsOfBytes (λ e. (attributes_by b e.head).initialization)
          (λ e is. of_one IsOfBytes b (value_named (codes "initialization") e.head) (value_is (codes "initialization") e.head is.head)) es
          all;
      init_reference = unless_is IsOfBytes said.attributes.initialization
          (option_and_then (λ (i : Initialization). i.reference) said.initialization)
          (inside (λ (i : Initialization). i.reference) IsInitializationOfBytes IsOfBytes
          (λ i is. is.reference) said.initialization initialization);
      init_range = unless_is IsSomeBytes said.attributes.initialization
          (option_and_then (λ (i : Initialization). i.range) said.initialization)
          (inside (λ (i : Initialization). i.range) IsInitializationOfBytes IsSomeBytes
          (λ i is. is.range) said.initialization initialization);
    }

by_bytes : (o : Option Means) (levels : List Element) → All IsElementOfBytes levels → IfSome (segments_by o levels) AreSegmentsOfBytes
by_bytes (Some means.Template) levels all = told_bytes false (elements_used template_name levels) (elements_are template_name levels all)
by_bytes (Some means.List) levels all = told_bytes true (elements_used list_name levels) (elements_are list_name levels all)
by_bytes (Some means.Base) levels all = tt
by_bytes None levels all = tt

segments_bytes : (levels : List Element) → All IsElementOfBytes levels → IfSome (segments_of levels) AreSegmentsOfBytes
unfolding segments_of
segments_bytes levels all = by_bytes (used levels) levels all

-- ---- rows

pub record IsRowOfBytes (row : Row) : Type 0 where
  pub id : IsOfBytes row.description.id
  pub bases : All IsOfBytes row.description.bases
  pub segments : AreSegmentsOfBytes (segments_in row)

untold_bytes : AreSegmentsOfBytes untold
untold_bytes = record { media = tt; urls = tt; init_template = tt; init_reference = tt; init_range = tt }

or_untold : (o : Option Segments) → IfSome o AreSegmentsOfBytes → AreSegmentsOfBytes (unwrap_or o untold)
or_untold None is = untold_bytes
or_untold (Some s) is = is

or_empty : (o : Option (List ℕ)) → IfSome o IsOfBytes → IsOfBytes (unwrap_or o [])
or_empty None is = All-nil IsByte
or_empty (Some text) is = is

-- the elements from an MPD down to a Representation
pub record IsPathOfBytes (path : Path) : Type 0 where
  pub mpd : IsElementOfBytes path.mpd
  pub period : IsElementOfBytes path.period
  pub set : IsElementOfBytes path.set
  pub representation : IsElementOfBytes path.representation

pub levels_bytes : (path : Path) → IsPathOfBytes path → All IsElementOfBytes (levels_of path)
levels_bytes path is =
    All-cons IsElementOfBytes path.representation (path.set ∷ path.period ∷ []) is.representation
    (All-cons IsElementOfBytes path.set (path.period ∷ []) is.set
    (All-cons IsElementOfBytes path.period [] is.period (All-nil IsElementOfBytes)))

pub bases_bytes : (path : Path) → IsPathOfBytes path → All IsOfBytes (description_in (common_at path) path.representation).bases
bases_bytes path is =
    let a = bases_below [] path.mpd in
    let b = bases_below a path.period in
    let c = bases_below b path.set in
    below c path.representation (below b path.set (below a path.period (below [] path.mpd (All-nil IsOfBytes) is.mpd) is.period) is.set)
    is.representation

row_bytes : (path : Path) → IsPathOfBytes path → IsRowOfBytes (typed.track_of segments_of path)
row_bytes path is = record {
  id = or_empty (value_named (codes "id") path.representation.head)
      (value_is (codes "id") path.representation.head is.representation.head);
  bases = bases_bytes path is;
  segments = or_untold (segments_of (levels_of path)) (segments_bytes (levels_of path) (levels_bytes path is));
}

kept_bytes : (e : Element) → IsElementOfBytes e → (l : Listed) (name : List ℕ) → All IsElementOfBytes (kept_children l name e)
kept_bytes e is l name = All-filter (is_kept l name e.head) IsElementOfBytes (side_by_side e.children) (beside e.children is.children)

module _ (tree : Element) (is : IsElementOfBytes tree) where
  set_bytes : (e set : Element) → IsElementOfBytes e → IsElementOfBytes set → (k : ℕ)
      → All (λ own. IsPathOfBytes (path_in tree e set k own)) (representations_of set)
  set_bytes e set is_period is_set k j d within = record {
    mpd = is;
    period = is_period;
    set = is_set;
    representation = kept_bytes set is_set listed.Representation (codes "Representation") j d within;
  }

  period_bytes : (e : Element) → IsElementOfBytes e → All IsPathOfBytes (paths_of tree e)
  period_bytes e is_period = paths_hold IsPathOfBytes tree e 0 (sets_of e)
      (λ k d within. set_bytes e _ is_period (kept_bytes e is_period listed.AdaptationSet (codes "AdaptationSet") k d within))

  rows_bytes : All (λ e. All IsPathOfBytes (paths_of tree e)) (periods_of tree)
  rows_bytes k d within = period_bytes _ (kept_bytes tree is listed.Period (codes "Period") k d within)

  -- what holds of each Representation's path of bytes
  pub paths_bytes : (P : Path → Type 0) → ((path : Path) → IsPathOfBytes path → P path)
      → All (λ e. All P (paths_of tree e)) (periods_of tree)
  paths_bytes P each =
      All-weaker (λ e. All IsPathOfBytes (paths_of tree e)) (λ e. All P (paths_of tree e))
      (λ e paths. All-weaker IsPathOfBytes P each (paths_of tree e) paths) (periods_of tree) rows_bytes

-- ---- what a Representation has in its Period

pub record IsMade (url : List ℕ) (live : Bool) (end : End) (d : Description) (s : Segments) (content : Content) : Type 0 where
  pub media : List ℕ
  pub template : Option (List ℕ)
  pub base : List ℕ
  pub media_is : template_of (unwrap_or s.media []) ≡ Ok media
  pub template_is : some_init s.init_template ≡ Ok template
  pub base_is : chain url d.bases ≡ Ok base
  pub initialization_is : referred base (init_reference d s template) ≡ Ok content.initialization.address
  pub range_is : s.init_range ≡ content.initialization.range
  pub runs_are : timeline_by s.timeline s live end (names_of d s media base) ≡ Ok content.runs

at_part : {X : Type 0} (f : Part → X) (a b : Part) → a ≡ b → f a ≡ f b
at_part f a b same = ap f same

module _ (url : List ℕ) (live : Bool) (end : End) (d : Description) (s : Segments) where
  abbrev with_runs : Part → SegmentTimeline → Result Content PresentationFault
  with_runs initialization runs = Ok (record { initialization = initialization; runs = runs })

  abbrev with_initialization : (media base : List ℕ) → Part → Result Content PresentationFault
  with_initialization media base initialization = and_then (runs_of live end d s media base) (with_runs initialization)

  abbrev with_base : (media : List ℕ) → Option (List ℕ) → List ℕ → Result Content PresentationFault
  with_base media template base = and_then (initialization_told d s template base) (with_initialization media base)

  abbrev with_template : (media : List ℕ) → Option (List ℕ) → Result Content PresentationFault
  with_template media template = and_then (base_of url d) (with_base media template)

  abbrev with_media : List ℕ → Result Content PresentationFault
  with_media media = and_then (init_of d.place s) (with_template media)

  pub made_of : (content : Content) → content_of url live end d s ≡ Ok content → IsMade url live end d s content
  unfolding content_of
  made_of content is =
      let media = steps_of (media_of d.place s) with_media content is in
      let template = steps_of (init_of d.place s) (with_template media.value) content media.then in
      let base = steps_of (base_of url d) (with_base media.value template.value) content template.then in
      let part = steps_of (initialization_told d s template.value base.value)
      (with_initialization media.value base.value) content base.then in
      let runs = steps_of (runs_of live end d s media.value base.value) (with_runs part.value) content part.then in
      let address = steps_of (told_as (at_url d.place) (referred base.value (init_reference d s template.value)))
      (λ address. Ok (part_with s.init_range address)) part.value part.first in
      let initialization : part.value ≡ content.initialization = (let h = runs.then in cc) in
      let part_is : part_with s.init_range address.value ≡ part.value = (let h = address.then in cc) in
      let same = part_is ∙ initialization in
      record {
        media = media.value;
        template = template.value;
        base = base.value;
        media_is = ok_under _ _ media.value media.first;
        template_is = ok_under _ _ template.value template.first;
        base_is = ok_under _ _ base.value base.first;
        initialization_is = ok_under _ _ address.value address.first
            ∙ at_part (λ part. Ok part.address) (part_with s.init_range address.value) content.initialization same;
        range_is = at_part (λ part. part.range) (part_with s.init_range address.value) content.initialization same;
        runs_are = ok_under _ _ runs.value runs.first ∙ (let h = runs.then in ap Ok (cc));
      }

template_bytes : (o : Option TemplateFault) (text template : List ℕ) → templates.unless_fault text o ≡ Ok template → text ≡ template
template_bytes None text template is = cc
template_bytes (Some fault) text template is = absurd (cc)

plain_bytes : (b : Bool) (fault : TemplateFault) (text template : List ℕ) → (if b then Err fault else Ok text) ≡ Ok template
    → text ≡ template
plain_bytes true fault text template is = absurd (cc)
plain_bytes false fault text template is = cc

init_bytes : (o template : Option (List ℕ)) → some_init o ≡ Ok template → IfSome o IsOfBytes → IfSome template IsOfBytes
init_bytes None template is bytes = (let same : None ≡ template = cc in subst (λ o. IfSome o IsOfBytes) same tt)
init_bytes (Some text) template is bytes =
    let a = steps_of (init_template_of text) (λ template. Ok (Some template)) template is in
    let b = steps_of (template_of text) unless_segments a.value a.first in
    let one = template_bytes (template_fault text) text b.value b.first in
    let two = plain_bytes _ _ b.value a.value b.then in
    let same : Some a.value ≡ template = (let h = a.then in cc) in
    subst (λ o. IfSome o IsOfBytes) same (subst IsOfBytes (one ∙ two) bytes)

init_reference_bytes : (d : Description) (s : Segments) (template : Option (List ℕ)) → IsOfBytes d.id → AreSegmentsOfBytes s
    → IfSome template IsOfBytes → IfSome (init_reference d s template) IsOfBytes
init_reference_bytes d s None id are bytes = are.init_reference
init_reference_bytes d s (Some template) id are bytes =
    (let ids : Ids = record { id = d.id; bandwidth = d.bandwidth; number = 0; time = 0 } in named_bytes template ids bytes id)

-- ---- parts

part_located : (range : Option Range) (r : Result (List ℕ) UrlFault) (part : Part) → IfSome range IsSomeBytes
    → ((address : List ℕ) → r ≡ Ok address → IsAddress address) → part_at range r ≡ Ok part → IsLocated part
part_located range (Ok address) part some is made = (let same : part_with range address ≡ part = cc in
    subst IsLocated same (record { address = is address refl; range = some }))
part_located range (Err fault) part some is made = absurd (cc)

one_located : (base : List ℕ) (o : Option RefPart) (part : Part) → IsAddress base
    → IfSome o (λ (one : RefPart). IfSome one.reference IsOfBytes × IfSome one.range IsSomeBytes) → listed_part base o ≡ Ok part
    → IsLocated part
one_located base None part is bytes made = part_located None (Ok base) part tt (λ address told. (let same : base ≡ address = cc in
    subst IsAddress same is)) made
one_located base (Some one) part is bytes made = part_located one.range (referred base one.reference) part bytes.1
    (λ address told. referred_is_address base one.reference address is bytes.0 told) made

pub at_place : {X : Type 0} (P : X → Type 0) (xs : List X) (k : ℕ) → All P xs → IfSome (slice_get xs k) P
at_place P [] k all = tt
at_place P (x ∷ xs) zero all = All-head P x xs all
at_place P (x ∷ xs) (suc k) all = at_place P xs k (All-tail P x xs all)

or_none : (o : Option (List RefPart)) → IfSome o (All IsUrlOfBytes) → All IsUrlOfBytes (unwrap_or o [])
or_none None are = All-nil IsUrlOfBytes
or_none (Some urls) are = are

-- every segment that the names of a Representation make
module _ (d : Description) (s : Segments) (media base : List ℕ) (id : IsOfBytes d.id) (are : AreSegmentsOfBytes s)
    (media_bytes : IsOfBytes media) (is : IsAddress base) where
  by_names : (list : Bool) (place number time : ℕ) (part : Part)
      → part_of (if list then names.Shared (unwrap_or s.urls []) base
      else names.Template media d.id d.bandwidth base) place number time ≡ Ok part → IsLocated part
  by_names true place number time part made =
      let P = λ (one : RefPart). IfSome one.reference IsOfBytes × IfSome one.range IsSomeBytes in
      one_located base (slice_get (unwrap_or s.urls []) place) part is
      (at_place P (unwrap_or s.urls []) place
      (λ k d within. let url = or_none s.urls are.urls k d within in (url.reference, url.range))) made
  by_names false place number time part made =
      let ids : Ids = record { id = d.id; bandwidth = d.bandwidth; number = number; time = time } in
      part_located None (resolve base (named media ids)) part tt (λ address told. resolved_is_address base (named media ids) address
      (address_bytes base is) (named_bytes media ids media_bytes id) told) made

  parts_located : (timeline : SegmentTimeline) → names_of d s media base ≡ timeline.names → AreLocated timeline
  parts_located timeline same x part made = by_names s.is_list (x.number - timeline.first_number) x.number (media_time timeline x) part
      (subst (λ (n : Names). part_of n (x.number - timeline.first_number) x.number (media_time timeline x) ≡ Ok part) (sym same) made)

timeline_names : (o : Option (List SEntry)) (s : Segments) (live : Bool) (end : End) (by : Names) (runs : SegmentTimeline)
    → timeline_by o s live end by ≡ Ok runs → by ≡ runs.names
timeline_names (Some timeline) s live end by runs is = ap (λ (t : SegmentTimeline). t.names) (no_fault _ _ runs is).1
timeline_names None s live end by runs is = ap (λ (t : SegmentTimeline). t.names) (no_fault _ _ runs is).1

pub record IsContentLocated (content : Content) : Type 0 where
  pub initialization : IsLocated content.initialization
  pub parts : AreLocated content.runs

content_located : (url : List ℕ) (live : Bool) (end : End) (row : Row) (content : Content) → IsAddress url → IsRowOfBytes row
    → content_of url live end row.description (segments_in row) ≡ Ok content → IsContentLocated content
content_located url live end row content is bytes made =
    let d = row.description in
    let s = segments_in row in
    let m = made_of url live end d s content made in
    let base = chain_is_address d.bases url m.base is bytes.bases m.base_is in
    let template = init_bytes s.init_template m.template m.template_is bytes.segments.init_template in
    let media = subst IsOfBytes (template_bytes (template_fault (unwrap_or s.media [])) (unwrap_or s.media []) m.media m.media_is)
    (or_empty s.media bytes.segments.media) in
    record {
      initialization = record {
        address = referred_is_address m.base (init_reference d s m.template) content.initialization.address base
            (init_reference_bytes d s m.template bytes.id bytes.segments template) m.initialization_is;
        range = subst (λ o. IfSome o IsSomeBytes) m.range_is bytes.segments.init_range;
      };
      parts = parts_located d s m.media m.base bytes.id bytes.segments media base content.runs
          (timeline_names s.timeline s live end (names_of d s m.media m.base) content.runs m.runs_are);
    }

-- ---- all contents

gathered_all : {X Y E : Type 0} (give : X → Result (List Y) E) (Q : X → Type 0) (P : Y → Type 0)
    → ((x : X) (ys : List Y) → Q x → give x ≡ Ok ys → All P ys) → (xs : List X) (ys : List Y) → All Q xs → gathered give xs ≡ Ok ys
    → All P ys
gathered_all give Q P each [] ys all is = (let none : [] ≡ ys = cc in subst (All P) none (All-nil P))
gathered_all give Q P each (x ∷ xs) ys all is =
    let s = steps_of (give x) _ ys is in
    let t = steps_of (gathered give xs) _ ys s.then in
    let same : s.value ++ t.value ≡ ys = (let h = t.then in cc) in
    subst (All P) same (All-append P s.value t.value (each x s.value (All-head Q x xs all) s.first)
    (gathered_all give Q P each xs t.value (All-tail Q x xs all) t.first))

-- what holds of what each row has holds of all contents
module _ (Q : Row → Type 0) (P : Content → Type 0) (url : List ℕ) (live : Bool) (each : (end : End) (row : Row) (content : Content) → Q row
    → content_of url live end row.description (segments_in row) ≡ Ok content → P content) where
  abbrev Has : Told → Type 0
  Has told = P told.content

  one_has : (end : End) (row : Row) (ys : List Told) → Q row → one_told url live end row ≡ Ok ys → All Has ys
  one_has end row ys q is =
      let s = steps_of (told_of url live end row) _ ys is in
      let t = steps_of (content_of url live end row.description (segments_in row)) _ s.value s.first in
      let same : s.value ∷ [] ≡ ys = (let h = s.then in cc) in
      let content : t.value ≡ s.value.content = (let h = t.then in cc) in
      subst (All Has) same (All-cons Has s.value [] (subst P content (each end row t.value q t.first)) (All-nil Has))

  period_has : (period : Period) (ys : List Told) → All Q period.tracks → period_told url live period ≡ Ok ys → All Has ys
  period_has period ys all is =
      let s = steps_of (gathered (one_told url live (end_of period)) period.tracks) _ ys is in
      let same : told_in_order s.value ≡ ys = (let h = s.then in cc) in
      subst (All Has) same (all_in_order (λ (told : Told). told.kind) Has s.value
      (gathered_all (one_told url live (end_of period)) Q Has (one_has (end_of period)) period.tracks s.value all s.first))

  pub all_have : (periods : List Period) (ys : List Told) → All (λ (period : Period). All Q period.tracks) periods
      → all_told url live periods ≡ Ok ys → All P (map (λ (told : Told). told.content) ys)
  all_have periods ys all is =
      All-map P (λ (told : Told). told.content) ys (gathered_all (period_told url live)
      (λ (period : Period). All Q period.tracks) Has period_has periods ys all is)

contents_located : (p : Presented) (from : CameFromMpd p) → IsFound from.tree from.url → All IsContentLocated p.contents
contents_located p from found =
    let of = of_mpd p from in
    let rows = each_row segments_of OneByOne from.tree from.mpd (clean from.tree from.mpd from.typed) IsRowOfBytes
    (paths_bytes from.tree found.tree (λ path. IsRowOfBytes (typed.track_of segments_of path)) row_bytes) in
    subst (λ (q : Presented). All IsContentLocated q.contents) of.is
    (all_have IsRowOfBytes IsContentLocated from.url from.mpd.facts.live (λ end row content bytes made.
    content_located from.url from.mpd.facts.live end row content found.url bytes made) from.mpd.periods of.tolds rows of.all)

pub initializations_are_located : InitializationsAreLocated
initializations_are_located p from found = λ k d within. (contents_located p from found k d within).initialization

pub parts_are_located : PartsAreLocated
parts_are_located p from found = λ k d within. (contents_located p from found k d within).parts

-- ---- times

timeline_well : (o : Option (List SEntry)) (s : Segments) (live : Bool) (end : End) (by : Names) (runs : SegmentTimeline)
    → timeline_by o s live end by ≡ Ok runs
    → IsSound runs.members
timeline_well (Some timeline) s live end by runs is = entries_sound (scale_of s) end live by runs timeline is
timeline_well None s live end by runs is = duration_sound (scale_of s) end live by runs (unwrap_or s.duration 0) is

abbrev pub IsContentWell : Content → Type 0
IsContentWell content = IsSound content.runs.members

content_well : (url : List ℕ) (live : Bool) (end : End) (row : Row) (content : Content)
    → content_of url live end row.description (segments_in row) ≡ Ok content
    → IsContentWell content
content_well url live end row content made =
    let s = segments_in row in
    let m = made_of url live end row.description s content made in
    timeline_well s.timeline s live end (names_of row.description s m.media m.base) content.runs m.runs_are

pub contents_well : (p : Presented) (from : CameFromMpd p) → All IsContentWell p.contents
contents_well p from =
    let of = of_mpd p from in
    let live = from.mpd.facts.live in
    subst (λ (q : Presented). All IsContentWell q.contents) of.is
    (all_have (λ row. Unit {0}) IsContentWell from.url live (λ end row content any made. content_well from.url live end row content made)
    from.mpd.periods of.tolds (λ k d within. λ j e inside. tt) of.all)

pub contents_ended : TimelinesEnd → DurationsEnd → (p : Presented) (from : CameFromStaticMpd p) → All IsEnded p.contents
contents_ended timelines durations p from =
    let of = of_mpd p (of_static p from) in
    subst (λ (q : Presented). All IsEnded q.contents) of.is
    (all_ended timelines durations from.url from.mpd.facts.live from.mpd.periods of.tolds of.all from.static)
