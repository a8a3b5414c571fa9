-- What the answers of a run have in common: each is of the site as it was at first.
use Rattle.page_server.specs.declared.ask.Ask.TheVariants as ask
use Rattle.std.proofs.Common.{◌≡◌, ℕ, ◌≤◌, List, [], ◌∷◌, All, inl, inr, refl, subst, ap, ap₂, ◌∙◌, arith}
use Rattle.std.proofs.lemmas.List.Elements.{All-nil, All-cons, All-weaker}
use Rattle.bridge_io.specs.Fault.{Rose}
use Rattle.http.specs.declared.request.Request.{Request}
use Rattle.http_header.specs.FieldValue.{FieldValue}
use Rattle.http_server.specs.Exchange.{Call, Chain}
use Rattle.http_server.specs.declared.response.Response.{Response}
use Rattle.page_server.specs.declared.ask.Ask.{Ask}
use Rattle.page_server.specs.Answers.{Site, Finds, Answers, IsAnswered, Stays, Step, HasReply, known_to, posted_reply}
use Rattle.page_server.specs.Requests.{ask_of}

stays_same : (a b : Site) → b ≡ a → Stays a b
stays_same a b is = record {
  making = ap (λ s. s.making) is;
  terms = ap (λ s. s.terms) is;
  files = ap (λ s. s.files) is;
  faults = rw is (omega arith);
}

stays_then : (a b c : Site) → Stays a b → Stays b c → Stays a c
stays_then a b c first next =
    let low = first.faults in
    let high = next.faults in
    record { making = next.making ∙ first.making; terms = next.terms ∙ first.terms; files = next.files ∙ first.files; faults = omega arith }

rose_within : (a b m n : ℕ) → a ≤ b → m ≤ n → Rose b m → Rose a n
rose_within a b m n low high (inl less) = inl (omega arith)
rose_within a b m n low high (inr full) = inr (omega arith)

-- the site as it is with other counts of faults
with_faults : (a b : Site) → Stays a b → b ≡ record a { faults = b.faults }
with_faults a b stays = ap₂ (λ m t. record b { making = m; terms = t }) stays.making stays.terms
    ∙ ap (λ f. record a { files = f; faults = b.faults }) stays.files

-- an answer of a later site is one of an earlier one, with the faults of a later one still
answers_of_first : (a b : Site) (m n : ℕ) (x : Ask) (known : List FieldValue) (r : Response) → Stays a b → m ≤ n
    → Answers b m x known r → Answers a n x known r
answers_of_first a b m n ask.Nothing known r stays more h = h
answers_of_first a b m n ask.OnlyRead known r stays more h = h
answers_of_first a b m n ask.OnlyPosted known r stays more h = h
answers_of_first a b m n ask.Malformed known r stays more h = h
answers_of_first a b m n (ask.File wanted) known r stays more (inl finds) =
    let found = subst (λ s. Finds s wanted known r) (with_faults a b stays) finds in
    inl (record { read = found.read; as_told = found.as_told; reply = found.reply })
answers_of_first a b m n (ask.File wanted) known r stays more (inr failed) =
    inr (rose_within a.faults b.faults m n stays.faults more failed.0, failed.1)
answers_of_first a b m n (ask.Posted posted) known r stays more h =
    subst (λ s. HasReply (posted_reply s.making s.terms posted) r) (with_faults a b stays) h

answered_of_first : (a b : Site) (m n : ℕ) (q : Request (List ℕ)) (r : Response) → Stays a b → m ≤ n
    → IsAnswered b m q r → IsAnswered a n q r
answered_of_first a b m n q r stays more (inl wanting) = inl wanting
answered_of_first a b m n q r stays more (inr answers) = inr (answers_of_first a b m n (ask_of q) (known_to q) r stays more answers)

pub chain_answers : {S : Type 0} (site : S → Site) (calls : List Call) (old new : S)
    → Chain (λ a q r b. Step (site a) q r (site b)) old calls new
    → All (λ call. IsAnswered (site old) (site new).faults call.0 call.1) calls × Stays (site old) (site new)
chain_answers site [] old new is =
    (All-nil (λ (call : Call). IsAnswered (site old) (site new).faults call.0 call.1), stays_same (site old) (site new) (ap site is))
chain_answers site (c ∷ calls) old new (next, step, rest) =
    let a = site old in
    let b = site next in
    let n = (site new).faults in
    let later = chain_answers site calls next new rest in
    let same = stays_same a a refl in
    let end = later.1 in (
      All-cons (λ (call : Call). IsAnswered a n call.0 call.1) c calls
          (answered_of_first a a b.faults n c.0 c.1 same end.faults step.answered)
          (All-weaker (λ (call : Call). IsAnswered b n call.0 call.1) (λ (call : Call). IsAnswered a n call.0 call.1)
          (λ call h. answered_of_first a b n n call.0 call.1 step.stays (omega arith) h) calls later.0),
      stays_then a b (site new) step.stays end,
    )
