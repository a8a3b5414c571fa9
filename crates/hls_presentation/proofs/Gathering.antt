-- What some things give one after another.
use Rattle.std.proofs.Common.{◌≡◌, suc, List, [], ◌∷◌, ◌++◌, length, All, Result, Ok, Err, IfSome, refl, sym, ◌∙◌, ap, subst, append_assoc}
use Rattle.std.proofs.{lemmas.List.append-nil, lemmas.Option.IfSome_then, lemmas.List.Elements.{All-nil, All-cons}}
use Rattle.bridge_io.proofs.AndThen.{steps_of}
use Rattle.bridge_io.specs.Answer.{and_then}
use Rattle.hls_presentation.specs.Presenting.{behind, gathered, refusal}
use Rattle.layer_faults.specs.declared.hls.HlsFault.{HlsFault}

behind_twice : {Y : Type 0} (before : List Y) (y : Y) (r : Result (List Y) HlsFault)
    → behind before (and_then r (λ ys. Ok (y ∷ ys))) ≡ behind (before ++ y ∷ []) r
behind_twice before y (Ok ys) = ap Ok (sym (append_assoc before (y ∷ []) ys))
behind_twice before y (Err e) = refl

module _ {X Y : Type 0} (give : X → Result Y HlsFault) where
  pub goes_on : (x : X) (xs : List X) (before : List Y) (y : Y) → give x ≡ Ok y
      → behind before (gathered give (x ∷ xs)) ≡ behind (before ++ y ∷ []) (gathered give xs)
  goes_on x xs before y is = rw is (behind_twice before y (gathered give xs))

  pub stops : (x : X) (xs : List X) (before : List Y) (fault : HlsFault) → IfSome (refusal fault) (λ f. give x ≡ Err f)
      → IfSome (refusal fault) (λ f. behind before (gathered give (x ∷ xs)) ≡ Err f)
  stops x xs before fault told = IfSome_then (refusal fault) told (λ f is. rw is refl)

  append_by : (x : X) (xs ys : List X) (before : List Y) (r : Result Y HlsFault) → give x ≡ r
      → ((before : List Y) → behind before (gathered give (xs ++ ys)) ≡ and_then (behind before (gathered give xs))
      (λ zs. behind zs (gathered give ys)))
      → behind before (gathered give (x ∷ (xs ++ ys))) ≡ and_then (behind before (gathered give (x ∷ xs)))
      (λ zs. behind zs (gathered give ys))
  append_by x xs ys before (Ok y) is later =
      goes_on x (xs ++ ys) before y is ∙ later (before ++ y ∷ [])
      ∙ ap (λ r. and_then r (λ zs. behind zs (gathered give ys))) (sym (goes_on x xs before y is))
  append_by x xs ys before (Err e) is later = rw is refl

  gathered_append : (xs ys : List X) (before : List Y) → behind before (gathered give (xs ++ ys))
      ≡ and_then (behind before (gathered give xs)) (λ zs. behind zs (gathered give ys))
  gathered_append [] ys before = ap (λ zs. behind zs (gathered give ys)) (sym (append-nil before))
  gathered_append (x ∷ xs) ys before = append_by x xs ys before (give x) refl (gathered_append xs ys)

  -- a whole row of them
  pub row_goes_on : (xs ys : List X) (before after : List Y) → behind before (gathered give xs) ≡ Ok after
      → behind before (gathered give (xs ++ ys)) ≡ behind after (gathered give ys)
  row_goes_on xs ys before after is = gathered_append xs ys before ∙ ap (λ r. and_then r (λ zs. behind zs (gathered give ys))) is

  pub row_stops : (xs ys : List X) (before : List Y) (fault : HlsFault)
      → IfSome (refusal fault) (λ f. behind before (gathered give xs) ≡ Err f)
      → IfSome (refusal fault) (λ f. behind before (gathered give (xs ++ ys)) ≡ Err f)
  row_stops xs ys before fault told =
      IfSome_then (refusal fault) told (λ f is. gathered_append xs ys before ∙ ap (λ r. and_then r (λ zs. behind zs (gathered give ys))) is)

  pub all_gathered : (P : Y → Type 0) → ((x : X) (y : Y) → give x ≡ Ok y → P y) → (xs : List X) (zs : List Y) → gathered give xs ≡ Ok zs
      → All P zs
  all_gathered P each [] zs is = (let none : [] ≡ zs = cc in subst (All P) none (All-nil P))
  all_gathered P each (x ∷ xs) zs is =
      let s = steps_of (give x) _ zs is in
      let t = steps_of (gathered give xs) _ zs s.then in
      let same : s.value ∷ t.value ≡ zs = (let h = t.then in cc) in
      subst (All P) same (All-cons P s.value t.value (each x s.value s.first) (all_gathered P each xs t.value t.first))

  pub length_gathered : (xs : List X) (zs : List Y) → gathered give xs ≡ Ok zs → length zs ≡ length xs
  length_gathered [] zs is = (let none : [] ≡ zs = cc in ap length (sym none))
  length_gathered (x ∷ xs) zs is =
      let s = steps_of (give x) _ zs is in
      let t = steps_of (gathered give xs) _ zs s.then in
      let same : s.value ∷ t.value ≡ zs = (let h = t.then in cc) in
      ap length (sym same) ∙ ap suc (length_gathered xs t.value t.first)
