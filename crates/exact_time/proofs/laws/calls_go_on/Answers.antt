use Rattle.exact_time.proofs.laws.calls_go_on.Goals as goal
use Rattle.std.proofs.Common.{◌≡◌, ℕ, zero, suc, ◌-◌, List, [], ◌∷◌, ◌++◌, ap, subst, ◌∙◌, sym, refl}
use Rattle.exact_time.specs.{Time.{Time, difference}, Laws.{CallsJoin, EqualEndsGoOn}, Floor.floor_in, Rounding.{AreNear, Calls, IsRising}}
use Rattle.exact_time.specs.{Rounding.{Rounding, differences, rounding_behind}, Equal.{ends_after, ticks_after}}
use Rattle.exact_time.proofs.{EqualSteps.{ticks_after-none, ticks_further}, Printed.{calls_print, floors}}

differences_behind : (u n : ℕ) (s former : Time) (earlier ends : List Time) →
    differences n (floors u s (earlier ++ former ∷ ends)) ≡ differences n (floors u s (earlier ++ former ∷ []))
    ++ differences (floor_in u (difference former s)) (floors u s ends)
differences_behind u n s former [] ends = refl
differences_behind u n s former (e ∷ earlier) ends =
    ap (λ (ms : List ℕ). (floor_in u (difference e s) - n) ∷ ms) (differences_behind u (floor_in u (difference e s)) s former earlier ends)

pub returns-clause-numbers : goal.returns-clause-numbers
returns-clause-numbers c first former unit earlier ends numbers last calls =
    differences_behind unit 0 first former earlier ends
    ∙ ap (λ (ms : List ℕ). differences 0 (floors unit first (earlier ++ former ∷ [])) ++ ms)
    (sym (calls_print (rounding_behind first unit former) ends numbers last calls))

pub returns-clause-allowed : goal.returns-clause-allowed
returns-clause-allowed c former end ends (is_time, later, rising) (near, nearer) = (later, near, rising, nearer)

joined : CallsJoin
joined old between new [] later [] others same calls = subst (λ (r : Rounding). Calls r later others new) same calls
joined old between new [] later (n ∷ numbers) others none calls = absurd none
joined old between new (end ∷ ends) later [] others none calls = absurd none
joined old between new (end ∷ ends) later (n ∷ numbers) others (next, call, rest) calls =
    (next, call, joined next between new ends later numbers others rest calls)

pub returns-clause-joined : goal.returns-clause-joined
returns-clause-joined c = joined

go_on : EqualEndsGoOn
unfolding ends_after
go_on former step zero later rising near = rw (ticks_after-none former step) (tt, rising, near)
go_on former step (suc count) later (is_time, after, rising) (here, near) =
    let rest = go_on (ticks_after former step) step count later rising near in
    let behind = subst (λ (t : Time). IsRising t later × AreNear t later) (ticks_further former step count) (rest.1, rest.2) in
    ((here, rest.0), behind.0, behind.1)

pub returns-clause-equal : goal.returns-clause-equal
returns-clause-equal c = go_on
