-- The updates of a stream are read of its bytes.
use Rattle.bridge_jobs.specs.declared.frame.Frame.TheVariants as frame
use Rattle.std.proofs.Common.{◌≡◌, ◌≤◌, ℕ, zero, suc, Bool, true, false, if◌then◌else◌, List, [], ◌∷◌, ◌++◌, length, take, Some, Result}
use Rattle.std.proofs.{Common.{Ok, Err, refl, ap, ◌∙◌, arith, length-append}, lemmas.Grind.flat_map-append}
use Rattle.std.proofs.{lemmas.List.Elements.{All-append, All-cons, All-nil}, lemmas.Option.same_Some, lemmas.Str.IsUtf8-from_is_utf8}
use Rattle.std.specs.{Prelude.{All, option_to_list, slice_get}, Result.result_ok, Str.is_utf8}
use Rattle.bridge_io.specs.Answer.{and_then}
use Rattle.bridge_jobs.specs.declared.frame.Frame.{Frame}
use Rattle.laws_of_mpds.proofs.Bytes.{all_bytes, utf8_bytes}
use Rattle.mpd_tree.specs.{Meaning.reading_of, Trees.Element, declared.fault.TextFault.TextFault}
use Rattle.laws_of_playlists.specs.Origins.{IsOfBytes}
use Rattle.live_meaning.specs.Updates.{Refresh, Reset, Tick, Update, Values, mpd_of}
use Rattle.laws_of_reloads.specs.Laws.{AreRead, IsRead, IsReadIfAny}
use Rattle.bridge_report.specs.declared.refusal.Refusal.{Refusal}
use Rattle.bridge_steps.specs.Manifests.{values_of}
use Rattle.bridge_live.specs.LiveMpds.{update_of}
use Rattle.bridge_steps.proofs.Static.{spelled_of}
use Rattle.laws_of_jobs.specs.Histories.{updates_of}

-- ---- of bytes

-- bytes that spell a tree are UTF-8, and so bytes
utf8_of : (b : Bool) (bytes : List ℕ) (read : Result Element TextFault) (fault : TextFault) (tree : Element) → is_utf8 bytes ≡ b
    → (if b then read else Err fault) ≡ Ok tree → IsOfBytes bytes
utf8_of true bytes read fault tree utf8 is = all_bytes bytes (utf8_bytes bytes (IsUtf8-from_is_utf8 bytes utf8))
utf8_of false bytes read fault tree utf8 is = absurd (cc)

values_read : (body : List ℕ) (mpd : Values) → values_of body ≡ Ok mpd → IsRead mpd
unfolding reading_of
values_read body mpd is =
    let spelled = spelled_of body mpd is in
    record {
      bytes = body;
      are = utf8_of (is_utf8 body) body _ _ spelled.tree refl spelled.reading;
      tree = spelled.tree;
      reading = spelled.reading;
      typed = spelled.typed;
    }

-- ---- of frames

-- what a frame is
abbrev as_update : Result Update Refusal → List Update
as_update u = option_to_list (result_ok u)

abbrev pub IsReadUpdate : Update → Type 0
IsReadUpdate u = IsReadIfAny (mpd_of u)

one_read : (u : Update) → IsReadUpdate u → All IsReadUpdate (u ∷ [])
one_read u is = All-cons IsReadUpdate u [] is (All-nil IsReadUpdate)

mpd_read : (body : List ℕ) (values : Result Values Refusal) (made : Values → Update)
    → ((mpd : Values) → IsRead mpd → IsReadUpdate (made mpd)) → values_of body ≡ values
    → All IsReadUpdate (as_update (and_then values (λ mpd. Ok (made mpd))))
mpd_read body (Ok mpd) made keeps read = one_read (made mpd) (keeps mpd (values_read body mpd read))
mpd_read body (Err r) made keeps read = All-nil IsReadUpdate

frame_read : (x : Frame) → All IsReadUpdate (as_update (update_of x))
unfolding update_of
frame_read (frame.Mpd now body) = mpd_read body (values_of body) (λ mpd. Refresh mpd now) (λ mpd is. is) refl
frame_read (frame.Reset now body) = mpd_read body (values_of body) (λ mpd. Reset mpd now) (λ mpd is. is) refl
frame_read (frame.Tick now) = one_read (Tick now) tt

pub are_read : (xs : List Frame) → AreRead (updates_of xs)
are_read [] = All-nil IsReadUpdate
are_read (x ∷ xs) = All-append IsReadUpdate (as_update (update_of x)) (updates_of xs) (frame_read x) (are_read xs)

one_at_most : (u : Result Update Refusal) → length (as_update u) ≤ 1
one_at_most (Ok u) = omega arith
one_at_most (Err r) = omega arith

pub no_more : (xs : List Frame) → length (updates_of xs) ≤ length xs
no_more [] = omega arith
no_more (x ∷ xs) = omega (arith, length-append (as_update (update_of x)) (updates_of xs), one_at_most (update_of x), no_more xs)

-- ---- one frame more

take_one_more : (xs : List Frame) (n : ℕ) (x : Frame) → slice_get xs n ≡ Some x → take (suc n) xs ≡ take n xs ++ x ∷ []
take_one_more [] n x is = absurd (cc)
take_one_more (y ∷ ys) zero x is = (let same : y ≡ x = same_Some _ _ is in ap (λ z. z ∷ []) same)
take_one_more (y ∷ ys) (suc n) x is = ap (λ zs. y ∷ zs) (take_one_more ys n x is)

pub one_more : (xs : List Frame) (n : ℕ) (x : Frame) (u : Update) → slice_get xs n ≡ Some x → update_of x ≡ Ok u
    → updates_of (take (suc n) xs) ≡ updates_of (take n xs) ++ u ∷ []
one_more xs n x u there is =
    ap updates_of (take_one_more xs n x there) ∙ flat_map-append (λ x. as_update (update_of x)) (take n xs) (x ∷ [])
    ∙ ap (λ r. updates_of (take n xs) ++ (as_update r ++ [])) is
