-- Mentions that stand set by set are told in their order.
use Rattle.std.proofs.Common.{◌≡◌, ℕ, ◌+◌, ◌<◌, ◌≤◌, Bool, true, false, eqb, List, [], ◌∷◌, ◌++◌, map, flat_map, filter, Option, None, refl}
use Rattle.std.proofs.{Common.{sym, ◌∙◌, ap, subst, arith, inl, inr, append_assoc, append-nil}, lemmas.Bool.{cases_Bool, cases_lt, eq-eqb}}
use Rattle.std.proofs.{lemmas.Bool.{false_from_ne_true, and_parts, ne_eqb, or_right, true≢false}, lemmas.List.map-append}
use Rattle.std.proofs.{lemmas.List.Concat.flat_map-append, lemmas.List.Elements.filter-append, lemmas.List.Folds.list_any-append}
use Rattle.std.specs.{Bool.⊤, List.{AllByRecursion, list_any}}
use Rattle.bridge_io.specs.{declared.media.Kind.Kind, declared.media.Kind.TheVariants.{Video, Audio, Text}}
use Rattle.hls_master.specs.{Renditions.same_kind, Tracks.{Mentioned, by_rendition, by_variant, address_of, by_kind, has_kind, kind_of}}
use Rattle.hls_master.specs.{Tracks.{same_set, sets_behind, track_of, tracks_among, tracks_of_sets, variant_kind}, Variants.VariantValue}
use Rattle.laws_of_playlists.specs.Master.{Head, head_of}
use Rattle.audio_groups.proofs.Lists.{all_append, all_weaker}

-- what a mention tells of its track
abbrev pub language_of : Mentioned → Option (List ℕ)
language_of (by_rendition rendition) = rendition.language
language_of (by_variant variant) = None

abbrev pub mention_head : Mentioned → Head
mention_head mention = record { kind = kind_of mention; language = language_of mention; address = address_of mention }

same_head : (variants : List VariantValue) (set : ℕ) (mention : Mentioned) → head_of (track_of variants set mention) ≡ mention_head mention
same_head variants set (by_rendition rendition) = refl
same_head variants set (by_variant variant) = refl

same_heads : (variants : List VariantValue) (set : ℕ) (mentions : List Mentioned)
    → map head_of (map (track_of variants set) mentions) ≡ map mention_head mentions
same_heads variants set [] = refl
same_heads variants set (mention ∷ mentions) = rw (same_head variants set mention, same_heads variants set mentions) refl

abbrev members_of : List Mentioned → List Mentioned → List Mentioned
members_of firsts sets = flat_map (λ set. filter (same_set set) firsts) sets

heads_of_sets : (variants : List VariantValue) (firsts : List Mentioned) (number : ℕ) (sets : List Mentioned)
    → map head_of (tracks_of_sets variants firsts number sets) ≡ map mention_head (members_of firsts sets)
heads_of_sets variants firsts number [] = refl
heads_of_sets variants firsts number (set ∷ sets) =
    map-append head_of (map (track_of variants number) (filter (same_set set) firsts)) (tracks_of_sets variants firsts (number + 1) sets)
    ∙ rw (same_heads variants number (filter (same_set set) firsts), heads_of_sets variants firsts (number + 1) sets)
    (sym (map-append mention_head (filter (same_set set) firsts) (members_of firsts sets)))

-- ---- a set is of one kind

module _ (test : Mentioned → Bool) where
  kept_in : (other : Mentioned → Bool) → ((m : Mentioned) → test m ≡ true → other m ≡ true) → (ms : List Mentioned)
      → filter test (filter other ms) ≡ filter test ms
  kept_in other h [] = refl
  kept_in other h (m ∷ ms) = elim (cases_Bool (other m)) [
    | inl is ↦ rw (is, kept_in other h ms) refl
    | inr isnt ↦ let fails : test m ≡ false = false_from_ne_true (test m) (λ e. true≢false (sym (h m e) ∙ isnt)) in
        rw (isnt, fails, kept_in other h ms) refl
  ]

  kept_out : (other : Mentioned → Bool) → ((m : Mentioned) → test m ≡ true → other m ≡ false) → (ms : List Mentioned)
      → filter test (filter other ms) ≡ []
  kept_out other h [] = refl
  kept_out other h (m ∷ ms) = elim (cases_Bool (other m)) [
    | inl is ↦ let fails : test m ≡ false = false_from_ne_true (test m) (λ e. true≢false (sym is ∙ h m e)) in
        rw (is, fails, kept_out other h ms) refl
    | inr isnt ↦ rw (isnt, kept_out other h ms) refl
  ]

  in_one_kind : (kind : Kind) → ((m : Mentioned) → test m ≡ true → kind_of m ≡ kind) → (ms : List Mentioned)
      → filter test (by_kind ms) ≡ filter test ms
  in_one_kind kind h ms = rw (
    filter-append test (filter (has_kind Video) ms ++ filter (has_kind Audio) ms) (filter (has_kind Text) ms),
    filter-append test (filter (has_kind Video) ms) (filter (has_kind Audio) ms),
  ) (of_kind kind h)
    where
      -- two mentions of the three kinds are left out
      of_kind : (k : Kind) → ((m : Mentioned) → test m ≡ true → kind_of m ≡ k)
          → filter test (filter (has_kind Video) ms) ++ filter test (filter (has_kind Audio) ms) ++ filter test (filter (has_kind Text) ms)
          ≡ filter test ms
      of_kind Video is = rw (
        kept_in (has_kind Video) (λ m e. ap (same_kind Video) (is m e)) ms,
        kept_out (has_kind Audio) (λ m e. ap (same_kind Audio) (is m e)) ms,
        kept_out (has_kind Text) (λ m e. ap (same_kind Text) (is m e)) ms,
        append-nil (filter test ms),
      ) (append-nil (filter test ms))
      of_kind Audio is = rw (
        kept_out (has_kind Video) (λ m e. ap (same_kind Video) (is m e)) ms,
        kept_in (has_kind Audio) (λ m e. ap (same_kind Audio) (is m e)) ms,
        kept_out (has_kind Text) (λ m e. ap (same_kind Text) (is m e)) ms,
      ) (append-nil (filter test ms))
      of_kind Text is = rw (
        kept_out (has_kind Video) (λ m e. ap (same_kind Video) (is m e)) ms,
        kept_out (has_kind Audio) (λ m e. ap (same_kind Audio) (is m e)) ms,
        kept_in (has_kind Text) (λ m e. ap (same_kind Text) (is m e)) ms,
      ) refl

pub kinds_are_same : (one other : Kind) → same_kind one other ≡ true → one ≡ other
kinds_are_same Video Video e = refl
kinds_are_same Audio Audio e = refl
kinds_are_same Text Text e = refl
kinds_are_same _ _ e = absurd (cc)

of_one_kind : (set m : Mentioned) → same_set set m ≡ true → kind_of m ≡ kind_of set
of_one_kind (by_rendition one) (by_rendition other) e =
    sym (kinds_are_same one.kind other.kind (and_parts (same_kind one.kind other.kind) _ e).0)
of_one_kind (by_variant one) (by_variant other) e = sym (kinds_are_same (variant_kind one) (variant_kind other) e)
of_one_kind (by_rendition one) (by_variant other) e = absurd (cc)
of_one_kind (by_variant one) (by_rendition other) e = absurd (cc)

by_kind_is_enough : (firsts sets : List Mentioned) → members_of (by_kind firsts) sets ≡ members_of firsts sets
by_kind_is_enough firsts [] = refl
by_kind_is_enough firsts (set ∷ sets) =
    rw (in_one_kind (same_set set) (kind_of set) (of_one_kind set) firsts, by_kind_is_enough firsts sets) refl

-- ---- mentions whose sets are told apart by numbers, which don't fall

module _ (Good : Mentioned → ℕ → Type 0) (same : (a b : Mentioned) (k n : ℕ) → Good a k → Good b n → same_set a b ≡ eqb k n) where
  abbrev Below : ℕ → Mentioned → Type 0
  Below bound m = (k : ℕ) × (Good m k × (k < bound))

  abbrev pub AreGood : ℕ → List Mentioned → Type 0
  AreGood low [] = ⊤
  AreGood low (m ∷ ms) = (k : ℕ) × ((low ≤ k) × (Good m k × AreGood k ms))

  not_before : (m : Mentioned) (k : ℕ) → Good m k → (other : Mentioned) → Below k other → same_set m other ≡ false
  not_before m k good other below = same m other k below.0 good below.1.0 ∙ ne_eqb k below.0 (λ e. omega (arith, e, below.1.1))

  not_behind : (m : Mentioned) (k : ℕ) → Good m k → (other : Mentioned) → Below k other → same_set other m ≡ false
  not_behind m k good other below = same other m below.0 k below.1.0 good ∙ ne_eqb below.0 k (λ e. omega (arith, e, below.1.1))

  none_same : (m : Mentioned) (k : ℕ) → Good m k → (ms : List Mentioned) → AllByRecursion (Below k) ms → list_any (same_set m) ms ≡ false
  none_same m k good [] all = refl
  none_same m k good (other ∷ ms) all = rw (not_before m k good other all.0) (none_same m k good ms all.1)

  none_kept : (m : Mentioned) (k : ℕ) → Good m k → (ms : List Mentioned) → AllByRecursion (Below k) ms → filter (same_set m) ms ≡ []
  none_kept m k good [] all = refl
  none_kept m k good (other ∷ ms) all = rw (not_before m k good other all.0) (none_kept m k good ms all.1)

  unchanged : (m : Mentioned) (k : ℕ) → Good m k → (done sets : List Mentioned) → AllByRecursion (Below k) sets
      → members_of (done ++ m ∷ []) sets ≡ members_of done sets
  unchanged m k good done [] all = refl
  unchanged m k good done (set ∷ sets) all =
      rw (
        filter-append (same_set set) done (m ∷ []),
        not_behind m k good set all.0,
        append-nil (filter (same_set set) done),
        unchanged m k good done sets all.1,
      ) refl

  below_later : (k n : ℕ) → k ≤ n → (ms : List Mentioned) → AllByRecursion (Below k) ms → AllByRecursion (Below n) ms
  below_later k n less = all_weaker (Below k) (Below n) (λ m below. (below.0, (below.1.0, omega (arith, less, below.1.1))))

  -- what was read so far, the sets among them, and the last set
  record IsRead (k : ℕ) (done before : List Mentioned) : Type 0 where
    earlier : List Mentioned
    last : Mentioned
    is : before ≡ earlier ++ last ∷ []
    below : AllByRecursion (Below k) earlier
    good : Good last k
    done_below : AllByRecursion (Below (k + 1)) done
    whole : members_of done before ≡ done

  one_more : (k : ℕ) (done before : List Mentioned) (m : Mentioned) → IsRead k done before → Good m k
      → (list_any (same_set m) before ≡ true) × IsRead k (done ++ m ∷ []) before
  one_more k done before m read good =
      let itself : same_set m read.last ≡ true = same m read.last k k good read.good ∙ eq-eqb k k refl in
      let back : same_set read.last m ≡ true = same read.last m k k read.good good ∙ eq-eqb k k refl in (
        rw (read.is, list_any-append (same_set m) read.earlier (read.last ∷ []), itself) (or_right _ _ refl),
        record {
          earlier = read.earlier;
          last = read.last;
          is = read.is;
          below = read.below;
          good = read.good;
          done_below = all_append (Below (k + 1)) done (m ∷ []) read.done_below ((k, (good, omega arith)), tt);
          whole = rw (
            read.is,
            flat_map-append (λ set. filter (same_set set) (done ++ m ∷ [])) read.earlier (read.last ∷ []),
            unchanged m k good done read.earlier read.below,
            filter-append (same_set read.last) done (m ∷ []),
            back,
          )
              (regrouped (members_of done read.earlier) (filter (same_set read.last) done)
              (sym (flat_map-append (λ set. filter (same_set set) done) read.earlier (read.last ∷ []))
              ∙ ap (members_of done) (sym read.is) ∙ read.whole));
        },
      )
    where
      regrouped : (xs ys : List Mentioned) → xs ++ (ys ++ []) ≡ done → xs ++ ((ys ++ m ∷ []) ++ []) ≡ done ++ m ∷ []
      regrouped xs ys e = rw (append-nil (ys ++ m ∷ []), ← e, append-nil ys, append_assoc xs ys (m ∷ [])) refl

  one_new : (k n : ℕ) (done before : List Mentioned) (m : Mentioned) → IsRead k done before → k < n → Good m n
      → (list_any (same_set m) before ≡ false) × IsRead n (done ++ m ∷ []) (before ++ m ∷ [])
  one_new k n done before m read less good =
      let itself : same_set m m ≡ true = same m m n n good good ∙ eq-eqb n n refl in
      let all : AllByRecursion (Below n) before = subst (λ (b : List Mentioned). AllByRecursion (Below n) b) (sym read.is)
      (all_append (Below n) read.earlier (read.last ∷ []) (below_later k n (omega arith) read.earlier read.below)
      ((k, (read.good, less)), tt)) in
      let done_all : AllByRecursion (Below n) done = below_later (k + 1) n (omega arith) done read.done_below in (
        none_same m n good before all,
        record {
          earlier = before;
          last = m;
          is = refl;
          below = all;
          good = good;
          done_below = all_append (Below (n + 1)) done (m ∷ []) (below_later n (n + 1) (omega arith) done done_all)
              ((n, (good, omega arith)), tt);
          whole = rw (
            flat_map-append (λ set. filter (same_set set) (done ++ m ∷ [])) before (m ∷ []),
            unchanged m n good done before all,
            read.whole,
            filter-append (same_set m) done (m ∷ []),
            none_kept m n good done done_all,
            itself,
          ) refl;
        },
      )

  read_on : (k : ℕ) (done before ms : List Mentioned) → IsRead k done before → AreGood k ms
      → members_of (done ++ ms) (sets_behind before ms) ≡ done ++ ms
  read_on k done before [] read good = rw (append-nil done) read.whole
  read_on k done before (m ∷ ms) read (n, (least, (good, more))) = elim (cases_lt k n) [
    | inl less ↦ let next = one_new k n done before m read less good in
        rw (next.0, ← append_assoc done (m ∷ []) ms) (read_on n (done ++ m ∷ []) (before ++ m ∷ []) ms next.1 more)
    | inr upto ↦ let is : n ≡ k = omega arith in
        let next = one_more k done before m read (subst (Good m) is good) in
        rw (next.0, ← append_assoc done (m ∷ []) ms) (read_on k (done ++ m ∷ []) before ms next.1 (subst (λ (j : ℕ). AreGood j ms) is more))
  ]

  in_order : (low : ℕ) (ms : List Mentioned) → AreGood low ms → members_of ms (sets_behind [] ms) ≡ ms
  in_order low [] good = refl
  in_order low (m ∷ ms) (k, (least, (good, more))) =
      let itself : same_set m m ≡ true = same m m k k good good ∙ eq-eqb k k refl in
      read_on k (m ∷ []) (m ∷ []) ms (record {
        earlier = [];
        last = m;
        is = refl;
        below = tt;
        good = good;
        done_below = ((k, (good, omega arith)), tt);
        whole = rw itself refl;
      }) more

  pub told_in_order : (low : ℕ) (variants : List VariantValue) (firsts : List Mentioned) → AreGood low (by_kind firsts)
      → map head_of (tracks_among variants firsts) ≡ map mention_head (by_kind firsts)
  unfolding tracks_among
  told_in_order low variants firsts good = let sets = sets_behind [] (by_kind firsts) in
      heads_of_sets variants firsts 0 sets ∙ ap (map mention_head) (sym (by_kind_is_enough firsts sets)
      ∙ in_order low (by_kind firsts) good)
