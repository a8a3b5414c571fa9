-- After a publication all served files are read as what they became.
use Rattle.bridge_report.specs.declared.refusal.Refusal.TheVariants as refusal
use Rattle.publish_core.specs.declared.refusal.Refused.TheVariants as refused
use Rattle.std.proofs.Common.{◌≡◌, ℕ, ◌<◌, List, [], ◌++◌, All, map, bytes_eq, Option, Some, None, Result, Ok, Err}
use Rattle.std.proofs.Common.{refl, sym, ◌∙◌, ap, subst}
use Rattle.std.proofs.{Common.{inl, inr}, lemmas.Bool.cases_Bool, lemmas.List.Elements.All-map}
use Rattle.std.specs.Prelude.{◌&&◌, is_some}
use Rattle.bridge_io.specs.{Answer.{and_then, told_as}, Outside.Files}
use Rattle.bridge_io.proofs.{Texts.same_bytes}
use Rattle.url_parts.specs.{Addresses.{IsAddress, absolute}, declared.fault.UrlFault.UrlFault}
use Rattle.hls_master.specs.{Masters.master_of, declared.fault.MasterFault.MasterFault, declared.track.MasterTrack.MasterTrack}
use Rattle.hls_master.specs.Tracks.{TrackValue}
use Rattle.laws_of_mpds.specs.Written.{TracksAreOfBytes}
use Rattle.laws_of_taken_texts.specs.Laws.{PublishedTextsAreTaken, ReadTextsAreTaken}
use Rattle.bridge_report.specs.Bases.{file_url, if_written_so, is_folder, own_address}
use Rattle.bridge_playlists.specs.Playlists.{track_kept}
use Rattle.publish_core.specs.{Decisions.{master_if, names_of}, Laws.{PublicationsAreServed}}
use Rattle.publish_core.specs.{Names.{master_file, name_in}, Placed.all_placed}
use Rattle.publish_core.specs.Sides.{base, content_of, list_at, master_by, master_in, of_file, side_at}
use Rattle.publish_core.specs.declared.{decision.NewFile.NewFile, side.Side.Side}
use Rattle.publish_core.proofs.{After.{changed_are, files_of}, Again.{list_is_read, master_is_read}}
use Rattle.publish_core.proofs.Apart.{IsSideIn, MastersAreOfBytes, side_in}
use Rattle.publish_core.proofs.{Going.{accepted_of, decided_next, parts_of}, Ordered.ReadIsInOrder}

-- ---- URLs of masters' tracks

is_own : (text url : List ℕ) (r : Result (List ℕ) UrlFault) → absolute text ≡ r → if_written_so text r ≡ Some url
    → (url ≡ text) × (absolute text ≡ Ok text)
is_own text url (Err f) of is = absurd (cc)
is_own text url (Ok own) of is = elim (cases_Bool (bytes_eq own text)) [
  | inl same ↦
      let kept : Some own ≡ Some url = rw same at is in
      let one : own ≡ url = cc in
      let whole = same_bytes own text same in (sym one ∙ whole, of ∙ ap Ok whole)
  | inr other ↦ let never : None ≡ Some url = rw other at is in absurd (cc)
]

url_is : (file url : List ℕ) → file_url base file ≡ Some url → IsAddress url
unfolding file_url
url_is file url is = elim (cases_Bool (is_folder base && is_some (own_address base))) [
  | inl folder ↦
      let own = is_own (base ++ file) url (absolute (base ++ file)) refl (rw folder at is) in
      subst IsAddress (sym own.0) (record { web = refl; normal = own.1 })
  | inr other ↦ let never : None ≡ Some url = rw other at is in absurd (cc)
]

module _ (tracks : TracksAreOfBytes) (file bytes : List ℕ) (masters : List MasterTrack) where
  of_master : (url : List ℕ) → IsAddress url → (r : Result (List TrackValue) MasterFault) → master_of bytes url ≡ r
      → of_file file (told_as (λ f. refused.Read (refusal.Master f)) (and_then r (λ seen. Ok (map track_kept seen)))) ≡ Ok masters
      → All (λ (master : MasterTrack). All (λ b. b < 256) master.address) masters
  of_master url is (Err f) of whole = absurd (cc)
  of_master url is (Ok seen) of whole =
      let same : map track_kept seen ≡ masters = cc in
      subst (All (λ (master : MasterTrack). All (λ b. b < 256) master.address)) same
      (All-map (λ (master : MasterTrack). All (λ b. b < 256) master.address) track_kept seen (tracks bytes url seen is of))

  by_url : (o : Option (List ℕ)) → file_url base file ≡ o → master_by file bytes o ≡ Ok masters
      → All (λ (master : MasterTrack). All (λ b. b < 256) master.address) masters
  by_url None of is = absurd (cc)
  by_url (Some url) of is = of_master url (url_is file url of) (master_of bytes url) refl is

pub of_bytes : TracksAreOfBytes → MastersAreOfBytes
unfolding master_in
of_bytes tracks file bytes masters is = by_url tracks file bytes masters (file_url base file) refl is

-- ---- the folders

-- a side with the name of its master
pub record IsSide (folder : List ℕ) (files : Files) (side : Side) : Type 0 where
  pub file : List ℕ
  pub file_is : name_in folder master_file ≡ Some file
  pub is : IsSideIn folder file files side

pub side_is : MastersAreOfBytes → (folder : List ℕ) (files : Files) (side : Side) (file : Option (List ℕ))
    → name_in folder master_file ≡ file → side_at folder files file ≡ Ok side → IsSide folder files side
side_is bytes folder files side None of is = absurd (cc)
side_is bytes folder files side (Some file) of is = record { file = file; file_is = of; is = side_in bytes folder files file side is }

pub are_served : ReadIsInOrder → TracksAreOfBytes → ReadTextsAreTaken → PublishedTextsAreTaken → PublicationsAreServed
are_served order tracks reads takes p pending pending_is =
    let parts = parts_of p (decided_next p) in
    let a = accepted_of order p parts in
    let news = side_is (of_bytes tracks) p.job.new p.files p.new (name_in p.job.new master_file) refl p.new_is in
    let olds = side_is (of_bytes tracks) p.job.served p.files p.served (name_in p.job.served master_file) refl p.served_is in
    let changed = changed_are [] (names_of p.new.tracks p.served.tracks) parts.publication.changes parts.lists parts.changed in
    let files : p.decision.files ≡ files_of (names_of p.new.tracks p.served.tracks) parts.publication.changes ++ master_if p.new p.served =
    parts.files ∙ ap (λ (l : List NewFile). l ++ master_if p.new p.served) changed.0 in
    let lists = list_is_read reads takes p.job.served p.job.new p.files p.new p.served news.file olds.file pending olds.file_is pending_is
    news.is olds.is a refl changed.1 in
    let master = master_is_read reads takes p.job.served p.job.new p.files p.new p.served news.file olds.file pending olds.file_is
    pending_is news.is olds.is a refl changed.1 in
    record {
      accepted = a;
      options = refl;
      tracks = refl;
      lists = λ place served track change served_is track_is change_is url. ap (λ (l : List NewFile). list_at served.name url (all_placed
          pending l p.files)) files ∙ lists place served track change served_is track_is change_is url;
      master = ap (λ (l : List NewFile). content_of p.served.file (all_placed pending l p.files)) files
          ∙ ap (λ (name : List ℕ). content_of name (all_placed pending (files_of (names_of p.new.tracks p.served.tracks)
          parts.publication.changes ++ master_if p.new p.served) p.files)) olds.is.file_is ∙ master;
    }
