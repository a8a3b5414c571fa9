-- Which file a request asks for.
use Rattle.std.specs.Prelude.{ℕ, zero, suc, ◌-◌, not, length, take, ◌==◌, ◌&&◌, ◌||◌, ◌++◌, unwrap_or}
use Rattle.std.specs.Prelude.{Bool, List, [], ◌∷◌, codes, bytes_eq, if◌then◌else◌, Option, Some, None, option_and_then, option_map}
use Rattle.std.specs.List.{find, suffix_len}
use Rattle.std.specs.Str.Lossy.{utf8_lossy}
use Rattle.bridge_io.specs.Names.{is_name}
use Rattle.form_urlencoded.specs.Form.{decode, raw_pairs}
use Rattle.http.specs.declared.request.Request.{Request}
use Rattle.http.specs.Request.{body_of, head_of}
use Rattle.http_uri.specs.Uri.{uri_path, uri_query}
use Rattle.page_server.specs.declared.maker.{Manifest.Manifest}
use Rattle.page_server.specs.declared.posted.Posted.{Posted}
use Rattle.page_server.specs.declared.wanted.Wanted.{Wanted}
use Rattle.page_server.specs.declared.ask.Ask.{Ask}
use Rattle.page_server.specs.declared.ask.Ask.TheVariants.{Nothing, OnlyRead, OnlyPosted, Malformed, File, Posted as AskPosted}

-- ---- paths

abbrev pub name_if : List ℕ → Option (List ℕ)
name_if text = if is_name text then Some text else None

-- a file that is made from a manifest, where both names are valid
abbrev pub wanted_if : (manifest file : List ℕ) → Option Wanted
wanted_if manifest file = if is_name manifest && is_name file then Some (record { manifest = manifest; file = file }) else None

-- what follows the leading `/` of a text
abbrev pub after_slash : List ℕ → Option (List ℕ)
after_slash [] = None
after_slash (b ∷ rest) = if b == 47 then Some rest else None

-- what is before the last `/`, given the index after it
abbrev pub folder_before : List ℕ → ℕ → Option (List ℕ)
folder_before text zero = None
folder_before text (suc slash) = Some (take slash text)

-- what is before the last `/`
abbrev pub folder_of : List ℕ → Option (List ℕ)
folder_of text = folder_before text (length text - suffix_len (λ b. not (b == 47)) text)

-- what is before the last `/` of a file's name is its manifest's name
abbrev pub wanted_file : (file : List ℕ) → Option Wanted
wanted_file file = option_and_then (λ manifest. wanted_if manifest file) (folder_of file)

unfoldable pub wanted_of : (path : List ℕ) → Option Wanted
wanted_of path = option_and_then wanted_file (after_slash path)

-- ---- posted manifests

-- the first field of a name, and the decoded text of a value, as form data: URL Standard, 5.1
abbrev pub raw_field_of : (query name : List ℕ) → Option (List ℕ × List ℕ)
raw_field_of query name = find (λ (pair : List ℕ × List ℕ). bytes_eq pair.0 name) (raw_pairs query)

abbrev pub decoded : (value : List ℕ) → List ℕ
decoded value = utf8_lossy (decode value)

abbrev pub field_of : (query name : List ℕ) → Option (List ℕ)
field_of query name = option_map (λ (pair : List ℕ × List ℕ). decoded pair.1) (raw_field_of query name)

abbrev pub posted_name : List ℕ
posted_name = codes "manifest.mpd"

abbrev pub posted_manifest : (body base : List ℕ) → Manifest
posted_manifest body base =
    record { base = base; name = posted_name; files = record { name = posted_name; bytes = body } ∷ [] }

-- a file of a manifest with these bytes, where its name is valid
abbrev pub posted_with : (body base file : List ℕ) → Option Posted
posted_with body base file =
    option_map (λ name. record { manifest = posted_manifest body base; file = name }) (name_if (codes "manifest.mpd/" ++ file))

unfoldable pub posted_of : (query body : List ℕ) → Option Posted
posted_of query body =
    option_and_then (λ base. option_and_then (posted_with body base) (field_of query (codes "file"))) (field_of query (codes "base"))

-- ---- requests

abbrev pub is_read : (method : List ℕ) → Bool
is_read method = bytes_eq method (codes "GET") || bytes_eq method (codes "HEAD")

abbrev pub ask_by : (method : List ℕ) → Option Wanted → Ask
ask_by method None = Nothing
ask_by method (Some wanted) = if is_read method then File wanted else OnlyRead

-- A path that isn't that of a manifest's file is unknown, for every method.
abbrev pub read_ask : Request (List ℕ) → Ask
read_ask request = ask_by (head_of request).method (wanted_of (uri_path (head_of request).uri))

abbrev pub ask_posted : Option Posted → Ask
ask_posted None = Malformed
ask_posted (Some posted) = AskPosted posted

abbrev pub query_in : Request (List ℕ) → List ℕ
query_in request = unwrap_or (uri_query (head_of request).uri) []

abbrev pub posted_ask : Request (List ℕ) → Ask
posted_ask request =
    if bytes_eq (head_of request).method (codes "POST") then ask_posted (posted_of (query_in request) (body_of request)) else OnlyPosted

-- Manifests are posted to one path; every other one may be that of a file.
abbrev pub ask_of : Request (List ℕ) → Ask
ask_of request = if bytes_eq (uri_path (head_of request).uri) (codes "/hls") then posted_ask request else read_ask request
