-- How a request is answered, and what a run over one connection sends.
use Rattle.page_server.specs.declared.ask.Ask.TheVariants as ask
use Rattle.std.specs.Prelude.{◌≡◌, ◌⊎◌, ℕ, ◌≤◌, List, [], ◌∷◌, All, codes, nat_eq, if◌then◌else◌, Option, Result, Ok, Err, OnOk}
use Rattle.std.specs.{Option.ForSome, List.ends_with, Io.KnownBytes.{Appends, Consumes}}
use Rattle.bridge_io.specs.{Fault.Rose, Outside.Files, Slurped.{Unread, Long, Missing}}
use Rattle.http.specs.declared.request.Request.{Request}
use Rattle.http.specs.Request.{head_of}
use Rattle.http_header.specs.FieldValue.{FieldValue}
use Rattle.http1.specs.Fields.{Header}
use Rattle.http_server.specs.declared.response.Response.{Response}
use Rattle.http_server.specs.declared.state.Config.{Config}
use Rattle.http_server.specs.Response.{IsResponse}
use Rattle.http_server.specs.History.{History, IsServed, IsDone}
use Rattle.page_server.specs.declared.{ask.Ask.Ask, maker.SourceFile.SourceFile, posted.Posted.Posted, terms.Terms.Terms}
use Rattle.page_server.specs.declared.wanted.Wanted.{Wanted}
use Rattle.page_server.specs.Pages as pages
use Rattle.page_server.specs.{Pages.{Page, Making}, Requests.ask_of, Tags.{tag_of, is_known, known_by}}

-- ---- replies

pub record Reply : Type 0 where
  pub status : ℕ
  pub fields : List Header
  pub body : List ℕ

abbrev pub HasReply : Reply → Response → Type 0
HasReply reply r = IsResponse reply.status reply.fields reply.body r

-- only a status
abbrev pub alone : ℕ → Reply
alone status = record { status = status; fields = []; body = [] }

-- how caches may use the response: RFC 9111, 5.2
abbrev pub cached : (cache : List ℕ) → Header
cached cache = (codes "cache-control", cache)

-- caches have to revalidate before they use what they have
abbrev pub asked_again : Header
asked_again = cached (codes "no-cache")

abbrev pub not_found : Reply
not_found = record { status = 404; fields = asked_again ∷ []; body = [] }

-- another method than these
abbrev pub not_allowed : (methods : List ℕ) → Reply
not_allowed methods = record { status = 405; fields = (codes "allow", methods) ∷ []; body = [] }

-- why a manifest is rejected
abbrev pub refused : (line : List ℕ) → Reply
refused line = record { status = 422; fields = (codes "content-type", codes "text/plain; charset=utf-8") ∷ asked_again ∷ []; body = line }

-- for an MPD by ISO/IEC 23009-1, and for a playlist by RFC 8216
abbrev pub media_type : (file : List ℕ) → List ℕ
media_type file = if ends_with nat_eq file (codes ".mpd") then codes "application/dash+xml" else codes "application/vnd.apple.mpegurl"

abbrev pub not_modified : (cache tag : List ℕ) → Reply
not_modified cache tag = record { status = 304; fields = (codes "etag", tag) ∷ cached cache ∷ []; body = [] }

abbrev pub found : (cache type tag body : List ℕ) → Reply
found cache type tag body =
    record { status = 200; fields = (codes "content-type", type) ∷ (codes "etag", tag) ∷ cached cache ∷ []; body = body }

-- `known` are the ETags that the client has
abbrev pub text_reply : (cache file : List ℕ) → (known : List FieldValue) → (text : List ℕ) → Reply
text_reply cache file known text =
    if is_known known (tag_of text) then not_modified cache (tag_of text) else found cache (media_type file) (tag_of text) text

abbrev pub page_reply : (cache file : List ℕ) → (known : List FieldValue) → Page → Reply
page_reply cache file known (pages.Text text) = text_reply cache file known text
page_reply cache file known pages.Missing = not_found
page_reply cache file known (pages.Refused line) = refused line

abbrev pub too_long : List ℕ
too_long = codes "a file is too long\n"

-- by what was read for the manifest
abbrev pub read_reply : Making → Terms → Wanted → (known : List FieldValue) → Result (List SourceFile) Unread → Reply
read_reply making terms wanted known (Ok files) = page_reply terms.cache.bytes wanted.file known
    (making.page_of (record { base = terms.base; name = wanted.manifest; files = files }) wanted.file)
read_reply making terms wanted known (Err Missing) = not_found
read_reply making terms wanted known (Err (Long place)) = refused too_long

-- for a posted manifest, for which a client's ETags don't matter
abbrev pub posted_reply : Making → Terms → Posted → Reply
posted_reply making terms posted = page_reply terms.cache.bytes posted.file [] (making.page_of posted.manifest posted.file)

-- ---- answers

-- the state for answers: how pages are made and sent, the files where the store models them, and how often a read has failed
pub record Site : Type 0 where
  pub making : Making
  pub terms : Terms
  pub files : Option Files
  pub faults : ℕ

abbrev pub site : Making → Terms → Option Files → (faults : ℕ) → Site
site making terms files faults = record { making = making; terms = terms; files = files; faults = faults }

-- The response is the reply by what was read, which is what the files have, where the store models them.
pub record Finds (s : Site) (wanted : Wanted) (known : List FieldValue) (r : Response) : Type 0 where
  pub read : Result (List SourceFile) Unread
  pub as_told : ForSome s.files (λ all. s.making.sources_of s.terms.base wanted.manifest all ≡ read)
  pub reply : HasReply (read_reply s.making s.terms wanted known read) r

abbrev pub Answers : Site → (faults : ℕ) → Ask → (known : List FieldValue) → Response → Type 0
Answers s faults ask.Nothing known r = HasReply not_found r
Answers s faults ask.OnlyRead known r = HasReply (not_allowed (codes "GET, HEAD")) r
Answers s faults ask.OnlyPosted known r = HasReply (not_allowed (codes "POST")) r
Answers s faults ask.Malformed known r = HasReply (alone 400) r
Answers s faults (ask.File wanted) known r = Finds s wanted known r ⊎ (Rose s.faults faults × HasReply (alone 500) r)
Answers s faults (ask.Posted posted) known r = HasReply (posted_reply s.making s.terms posted) r

-- the ETags that a request lists
abbrev pub known_to : Request (List ℕ) → List FieldValue
known_to request = known_by (head_of request).headers

-- A request is answered by a site, with this count of failed reads in the end, or memory runs out.
abbrev pub IsAnswered : Site → (faults : ℕ) → Request (List ℕ) → Response → Type 0
IsAnswered site faults request r = HasReply (alone 503) r ⊎ Answers site faults (ask_of request) (known_to request) r

-- nothing changed, except that reads may have failed
pub record Stays (old new : Site) : Type 0 where
  pub making : new.making ≡ old.making
  pub terms : new.terms ≡ old.terms
  pub files : new.files ≡ old.files
  pub faults : old.faults ≤ new.faults

-- a request was answered between two states
pub record Step (old : Site) (request : Request (List ℕ)) (r : Response) (new : Site) : Type 0 where
  pub answered : IsAnswered old new.faults request r
  pub stays : Stays old new

-- A run over one connection, from its first byte on: what was sent answers the requests that were read, in order, and each
-- answer is that of the site.
pub record Run {E : Type 0} (config : Config) (old new : Site) (from from' to to' : Option (List ℕ)) (result : Result (Unit {0}) E)
    : Type 0 where
  pub history : History
  pub is_served : ∥ IsServed config history ∥₁
  pub answers : All (λ call. IsAnswered old new.faults call.0 call.1) history.calls
  pub stays : Stays old new
  pub read : Consumes from from' history.received
  pub written : Appends to to' history.sent
  pub done : OnOk result (IsDone history)
