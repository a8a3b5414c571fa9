use Rattle.bridge_io.specs.{Outside.Files, Slurped.{Unread, Long, Missing}}
use Rattle.std.specs.Option.{ForSome}
use Rattle.std.proofs.Common.{◌≡◌, ℕ, List, Option, Result, Ok, Err, inl, subst, ◌∙◌}
use Rattle.std.proofs.lemmas.Result.{on_ok_weaker}
use Rattle.page_server.specs.declared.maker.SourceFile.{SourceFile}
use Rattle.page_server.specs.Answers.{HasReply, page_reply}
use Rattle.page_server.specs.{Pages.Making, Tags.known_by}
use Rattle.page_server.proofs.origin.Origin.send.Goals as goal

-- what was read is what the files have, by the same maker and the same base
told : {M : Type 0} (making : M → Making) (files : Option Files) (m m' : M) (base base' manifest : List ℕ)
    (read : Result (List SourceFile) Unread) → m ≡ m' → base ≡ base'
    → ForSome files (λ all. (making m).sources_of base manifest all ≡ read)
    → ForSome files (λ all. (making m').sources_of base' manifest all ≡ read)
told making files m m' base base' manifest read same_maker same_base is =
    subst (λ base. ForSome files (λ all. (making m').sources_of base manifest all ≡ read)) same_base
    (subst (λ m. ForSome files (λ all. (making m).sources_of base manifest all ≡ read)) same_maker is)

pub returns-in-Ok-clause-answer : goal.returns-in-Ok-clause-answer
returns-in-Ok-clause-answer g c =
    let making = g.M.Maker.making c.args.self.now.workshop.maker in
    let terms = c.args.self.now.terms in
    let wanted = c.args.wanted in
    on_ok_weaker c.send_page.result (λ reply. inl (record {
      read = Ok c.in-Ok.files;
      as_told = told g.M.Maker.making (g.F.Store.files c.args.self.now.store) _ _ _ _ wanted.manifest _
          c.maker.ensures c.as_str-base.ensures c.in-Ok.ensures.read;
      reply = subst (λ base. HasReply (page_reply terms.cache.bytes wanted.file (known_by c.args.headers.now)
          (making.page_of (record { base = base; name = wanted.manifest; files = c.in-Ok.files }) wanted.file))
          c.send_page.new.response) (c.in_ok-base-in-Ok.ensures ∙ c.as_str-base.ensures) reply;
    })) c.send_page.ensures.answer

pub returns-in-Err-Absent-clause-answer : goal.returns-in-Err-Absent-clause-answer
returns-in-Err-Absent-clause-answer g c =
    let files = g.F.Store.files c.args.self.now.store in
    let gives : ForSome files (λ all. (g.M.Maker.making c.maker.result.now).sources_of c.as_str-base.result.now
    c.args.wanted.manifest all ≡ Err Missing) = rw c.in-Err-Absent.field-0-is at c.in-Err-Absent.ensures.read in
    on_ok_weaker c.not_found.result (λ reply. inl (record {
      read = Err Missing;
      as_told = told g.M.Maker.making files _ _ _ _ c.args.wanted.manifest _ c.maker.ensures c.as_str-base.ensures gives;
      reply = reply;
    })) c.not_found.ensures

pub returns-in-Err-TooLong-clause-answer : goal.returns-in-Err-TooLong-clause-answer
returns-in-Err-TooLong-clause-answer g c =
    let files = g.F.Store.files c.args.self.now.store in
    let why = Long c.in-Err-TooLong.field-0-0 in
    let gives : ForSome files (λ all. (g.M.Maker.making c.maker.result.now).sources_of c.as_str-base.result.now
    c.args.wanted.manifest all ≡ Err why) = rw c.in-Err-TooLong.field-0-is at c.in-Err-TooLong.ensures.read in
    on_ok_weaker c.too_long.result (λ reply. inl (record {
      read = Err why;
      as_told = told g.M.Maker.making files _ _ _ _ c.args.wanted.manifest _ c.maker.ensures c.as_str-base.ensures gives;
      reply = reply;
    })) c.too_long.ensures
