-- Both forms of the MPDs of playlists that were read mean the same.
use Rattle.std.proofs.Common.{◌∙◌, sym}
use Rattle.segment_forms.specs.declared.form.Form.TheVariants.{Plain, Players}
use Rattle.iso_time.specs.Laws.{InstantsAreDenoted}
use Rattle.hls_media.specs.Laws.{ReadIsBounded}
use Rattle.hls_presentation.specs.Origins.{ReadAreSilent}
use Rattle.laws_of_playlists.specs.Origins.{OwnTextsAreAddresses}
use Rattle.laws_of_mpds.specs.{Forms.{LiveFormsMeanTheSame, TimedFormsMeanTheSame}, Written.{ReadAreInOrder, ReadCanBeTold}}
use Rattle.laws_of_mpds.specs.Written.{ReadHaveAddresses, ReadHaveRates, ReadMeanTheSame, TracksAreOfBytes}
use Rattle.laws_of_mpds.proofs.Whole.{can_be_written}
use Rattle.bridge_reach.specs.DashTimes.{runs_of}
use Rattle.laws_of_jobs.specs.{Followed.FollowedCanBeRead, Forms.{FollowedAreAlike, FollowedRunsAreAlike, ReadAreAlike, ReadTimesAreAlike}}
use Rattle.laws_of_jobs.specs.Rounds.{history_to}
use Rattle.laws_of_jobs.proofs.{RoundReadings.are_followed, Timed.can_be_read}

pub read_alike : ReadMeanTheSame → ReadAreAlike
read_alike meant master url tracks medias p read bounded addresses presented at now =
    meant Players master url tracks medias p at now read bounded addresses presented
    ∙ sym (meant Plain master url tracks medias p at now read bounded addresses presented)

pub times_alike : ReadAreSilent → ReadAreInOrder → ReadCanBeTold → TimedFormsMeanTheSame → ReadTimesAreAlike
times_alike quiet order told forms form master url tracks medias folder files p times rows have at now =
    let can = can_be_written tracks medias p have.bounded have.addresses (order master url tracks have.read)
    (told master url tracks have.read) have.presented in
    forms p (runs_of form p times rows) at now can.written can.told
    (can_be_read quiet form master url tracks medias folder files p times rows have)

pub followed_alike : FollowedCanBeRead → LiveFormsMeanTheSame → FollowedAreAlike
followed_alike read forms master url tracks rounds new are at now = forms new.mpd at now (read master url tracks rounds new are)

module _ (denoted : InstantsAreDenoted) (own : OwnTextsAreAddresses) (rates : ReadHaveRates) (lie : TracksAreOfBytes)
    (bounded : ReadIsBounded) (addresses : ReadHaveAddresses) where
  pub runs_alike : FollowedAreAlike → FollowedRunsAreAlike
  runs_alike alike words job files tracks input course n followed is left =
      let are = are_followed denoted own rates lie bounded addresses words job files tracks input course n followed is left in
      alike are.0 is.place.url tracks (history_to job tracks input n) followed are.1
