-- What published texts are read as, and that they lawfully reload those that were served.
use Rattle.std.proofs.Common.{arith}
use Rattle.hls_media.specs.{Laws.{ReadIsBounded, ReadIsMeant}, Told.SegmentsAreTold}
use Rattle.reload_law.specs.Laws.{RulesAreSentences}
use Rattle.laws_of_mpds.specs.Written.{ReadHaveAddresses}
use Rattle.laws_of_playlists.specs.ReadMedia.{FollowedAreRead}
use Rattle.laws_of_publishing.specs.Laws.{ListsReload, media_told}
use Rattle.laws_of_published_texts.specs.Laws.{FirstTextsAreTold, PublishedTextsAreTold, PublishedTextsReload, ReadTextsAreTold, list_with}
use Rattle.laws_of_published_texts.proofs.{Goes.published_is_sound, Sound.{read_is_sound, sound_is_told}}

module _ (bounded : ReadIsBounded) (meant : ReadIsMeant) (addressed : ReadHaveAddresses) (told : SegmentsAreTold)
    (again : FollowedAreRead) where
  pub read_texts_are_told : ReadTextsAreTold
  read_texts_are_told list read = sound_is_told again list (read_is_sound bounded meant addressed told list read again)

  pub first_texts_are_told : FirstTextsAreTold
  first_texts_are_told list target ended read less =
      let is = read_is_sound bounded meant addressed told list read again in
      sound_is_told again (list_with target ended list) (record {
        few = is.few;
        good = is.good;
        order = is.order;
        head = record { target = omega (arith, less); sequence = is.head.sequence; first_section = is.head.first_section };
        first = is.first;
      })

  pub published_texts_are_told : PublishedTextsAreTold
  published_texts_are_told a r served new =
      let sound = read_is_sound bounded meant addressed told in
      sound_is_told again r.list (published_is_sound a r (sound r.track.served served again) (sound r.track.new new again))

pub published_texts_reload : ReadTextsAreTold → PublishedTextsAreTold → ListsReload → RulesAreSentences → PublishedTextsReload
published_texts_reload read told reload sentences a r url served new = record {
  before = media_told r.track.served;
  after = media_told r.list;
  old_is = read r.track.served served url;
  new_is = told a r served new url;
  lawful = (sentences (media_told r.track.served) (media_told r.list)).0 (reload a r);
}
