-- What a list was read of.
use Rattle.followed_text.specs.declared.fault.FollowedFault.TheVariants as fault
use Rattle.std.proofs.Common.{◌≡◌, ℕ, ◌≤◌, ◌&&◌, nat_le, subst, List, [], ◌∷◌, length, codes, Option, Some, None, Result, Ok, Err, ℤ, refl}
use Rattle.std.proofs.{Common.{arith, inl, inr, bytes_eq}, lemmas.{Bool.cases_Bool, Bool.Decides.nat_tests, Option.same_Some}}
use Rattle.bridge_io.specs.Answer.{and_then}
use Rattle.bridge_io.proofs.Texts.{same_bytes}
use Rattle.hls_lines.specs.{Lines.{PlaylistLine, tag, uri, lines_of}, declared.fault.LineFault.LineFault}
use Rattle.hls_media.specs.{Media.media_of, declared.fault.MediaFault.MediaFault, declared.media.Media.Media}
use Rattle.hls_writer.specs.declared.items.MediaItem.{MediaItem}
use Rattle.followed_text.specs.Followed.{candidate_in, candidate_of, candidate_with, dates_of, decimals, digits_from, digits_of}
use Rattle.followed_text.specs.Followed.{followed_from}
use Rattle.followed_text.specs.Followed.{followed_of, form_of, items_of, media_or_fault, text_of}
use Rattle.followed_text.specs.declared.{fault.FollowedFault.FollowedFault, followed.FollowedText.FollowedText}
use Rattle.publish_law.specs.Lists.{first_section}

-- the playlist of a text, with dates and a number of decimals, gives the list
pub record IsGiven (bytes url : List ℕ) (list : FollowedText) : Type 0 where
  pub media : Media
  pub media_is : media_of bytes url ≡ Ok media
  pub text : text_of list ≡ bytes
  pub dates : List ℤ
  pub lines : List PlaylistLine
  pub lines_are : lines_of bytes ≡ Ok lines
  pub dates_are : dates_of lines ≡ dates
  pub items : list.items ≡ items_of list.head.digits media.segments dates
  pub digits : list.head.digits ≤ 9
  pub digits_are : digits_from list.head.digits ≡ Some list.head.digits
  pub target : list.head.target ≡ media.target
  pub sequence : list.head.sequence ≡ media.sequence
  pub first : list.head.first_section ≡ first_section 0 list.items
  pub some : 1 ≤ length list.items

few_from : (n m : ℕ) → digits_from n ≡ Some m → m ≤ 9
few_from n m is = grind (arith, nat_tests)

same_from : (n m : ℕ) → digits_from n ≡ Some m → digits_from m ≡ Some m
same_from n m is = elim (cases_Bool (nat_le 3 n && nat_le n 9)) [
  | inl within ↦ let same : n ≡ m = same_Some n m (rw within at is) in subst (λ (k : ℕ). digits_from k ≡ Some m) same is
  | inr other ↦ let never : None ≡ Some m = rw other at is in absurd (cc)
]

from_digits : (lines : List PlaylistLine) (m : ℕ) → digits_of lines ≡ Some m → digits_from m ≡ Some m
from_digits [] m is = absurd (cc)
from_digits (uri text place ∷ lines) m is = from_digits lines m is
from_digits (tag name rest place ∷ lines) m is = elim (cases_Bool (bytes_eq name (codes "EXTINF"))) [
  | inl named ↦ same_from (decimals rest) m (rw named at is)
  | inr other ↦ from_digits lines m (rw other at is)
]

module _ (bytes url : List ℕ) (list : FollowedText) (media : Media) (media_is : media_of bytes url ≡ Ok media)
    (text : text_of list ≡ bytes) where
  module _ (lines : List PlaylistLine) (lines_are : lines_of bytes ≡ Ok lines) where
    from_items : (digits : ℕ) (items : List MediaItem) → digits_from digits ≡ Some digits
        → items ≡ items_of digits media.segments (dates_of lines) → followed_from media digits items ≡ Some list → IsGiven bytes url list
    from_items digits [] told items_are is = absurd (cc)
    from_items digits (item ∷ items) told items_are is = let same = same_Some _ list is in record {
      media = media;
      media_is = media_is;
      text = text;
      dates = dates_of lines;
      lines = lines;
      lines_are = lines_are;
      dates_are = refl;
      items = rw (← same) items_are;
      digits = rw (← same) (few_from digits digits told);
      digits_are = rw (← same) told;
      target = rw (← same) refl;
      sequence = rw (← same) refl;
      first = rw (← same) refl;
      some = rw (← same) (omega arith);
    }

    from_number : (o : Option ℕ) → digits_of lines ≡ o → candidate_with media o (dates_of lines) ≡ Some list → IsGiven bytes url list
    from_number None of is = absurd (cc)
    from_number (Some digits) of is =
        from_items digits (items_of digits media.segments (dates_of lines)) (from_digits lines digits of) refl is

  from_lines : (r : Result (List PlaylistLine) LineFault) → lines_of bytes ≡ r → candidate_in media r ≡ Some list
      → IsGiven bytes url list
  from_lines (Ok lines) of is = from_number lines of (digits_of lines) refl is
  from_lines (Err f) of is = absurd (cc)

  from_candidate : candidate_of bytes media ≡ Some list → IsGiven bytes url list
  unfolding candidate_of
  from_candidate is = from_lines (lines_of bytes) refl is

module _ (bytes url : List ℕ) (list : FollowedText) where
  from_form : (media : Media) → media_of bytes url ≡ Ok media → (o : Option FollowedText) → candidate_of bytes media ≡ o
      → form_of bytes o ≡ Ok list → IsGiven bytes url list
  from_form media media_is None of is = absurd (cc)
  from_form media media_is (Some other) of is = elim (cases_Bool (bytes_eq (text_of other) bytes)) [
    | inl same ↦
        let made : ◌≡◌ {A = Result FollowedText FollowedFault} (Ok other) (Ok list) = rw same at is in
        let one : other ≡ list = cc in
        from_candidate bytes url list media media_is (rw (← one) (same_bytes (text_of other) bytes same)) (rw (← one) of)
    | inr differ ↦ let never : ◌≡◌ {A = Result FollowedText FollowedFault} (Err fault.Form) (Ok list) = rw differ at is in absurd (cc)
  ]

  from_media : (r : Result Media MediaFault) → media_of bytes url ≡ r
      → and_then (media_or_fault r) (λ media. form_of bytes (candidate_of bytes media)) ≡ Ok list → IsGiven bytes url list
  from_media (Ok media) of is = from_form media of (candidate_of bytes media) refl is
  from_media (Err f) of is = absurd (cc)

  pub given : followed_of bytes url ≡ Ok list → IsGiven bytes url list
  unfolding followed_of
  given is = from_media (media_of bytes url) refl is
