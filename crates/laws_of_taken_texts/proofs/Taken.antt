-- The texts of served and of published playlists are taken.
use Rattle.std.proofs.Common.{◌≡◌, ℕ, ◌+◌, ◌*◌, ◌^◌, ◌≤◌, false, nat_lt, arith, get_or}
use Rattle.std.proofs.lemmas.Bool.{ltb-false}
use Rattle.hls_media.specs.{Laws.{ReadIsBounded, ReadIsMeant}, Told.SegmentsAreTold}
use Rattle.followed_text.specs.declared.followed.FollowedText.{FollowedText}
use Rattle.laws_of_mpds.specs.Written.{ReadHaveAddresses}
use Rattle.laws_of_playlists.specs.ReadMedia.{FollowedAreRead, nanos_of}
use Rattle.laws_of_published_texts.specs.Laws.{IsRead, list_with}
use Rattle.laws_of_published_texts.proofs.{Goes.published_is_sound, Sound.{IsSound, read_is_sound}}
use Rattle.laws_of_taken_texts.specs.Laws.{FirstTextsAreTaken, PublishedTextsAreTaken, ReadTextsAreTaken}
use Rattle.laws_of_taken_playlists.proofs.Faultless.{not_above}
use Rattle.laws_of_taken_texts.proofs.{Publishing.published_is_bounded, Reading.read_is_bounded}
use Rattle.laws_of_taken_texts.proofs.Taking.{IsBoundedList, taken}

-- what is short for a target duration is short for a greater one
still_short : (target more nanos : ℕ) → target ≤ more → nat_lt (target * 10 ^ 9 + 5 * 10 ^ 8) nanos ≡ false
    → nat_lt (more * 10 ^ 9 + 5 * 10 ^ 8) nanos ≡ false
still_short target more nanos le short =
    let most = ltb-false (target * 10 ^ 9 + 5 * 10 ^ 8) nanos short in
    not_above nanos (more * 10 ^ 9 + 5 * 10 ^ 8) (omega (arith, le, most))

module _ (bounded : ReadIsBounded) (meant : ReadIsMeant) (addressed : ReadHaveAddresses) (told : SegmentsAreTold)
    (again : FollowedAreRead) where
  sound : (list : FollowedText) → IsRead list → IsSound list
  sound list read = read_is_sound bounded meant addressed told list read again

  in_bounds : (list : FollowedText) → IsRead list → IsBoundedList list
  in_bounds = read_is_bounded bounded meant addressed told again

  pub read_taken : ReadTextsAreTaken
  read_taken list read = taken list (sound list read) (in_bounds list read)

  pub first_taken : FirstTextsAreTaken
  first_taken list target ended read le less =
      let is = sound list read in
      let own = in_bounds list read in
      taken (list_with target ended list) (record {
        few = is.few;
        good = is.good;
        order = is.order;
        head = record { target = omega (arith, less); sequence = is.head.sequence; first_section = is.head.first_section };
        first = is.first;
      }) (record {
        digits = own.digits;
        head = record { target = less; sequence = own.head.sequence; first_section = own.head.first_section };
        few = own.few;
        some = own.some;
        each = own.each;
        short = λ k d within. still_short list.head.target target (nanos_of list.head.digits (get_or list.items k d).duration) le
            (own.short k d within);
        dated = own.dated;
      })

  pub published_taken : PublishedTextsAreTaken
  published_taken a r served new few =
      let is = published_is_sound a r (sound r.track.served served) (sound r.track.new new) in
      taken r.list is (published_is_bounded a r is (in_bounds r.track.served served) (in_bounds r.track.new new) few)
