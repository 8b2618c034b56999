-- What an instruction gives to its successors, over heights and topmost labels: the compact form of stackmap's `ways`.
use Rattle.std.specs.Prelude.{cond, ◌&&◌, List, ℕ, zero, suc, ◌+◌, ◌-◌, eqb, leb}
use Rattle.entries.specs.Libraries.{Library, library_in}
use Rattle.operand.specs.Distance.{place_at}
use Rattle.shape.specs.declared.Shape.{Shape}
use Rattle.shape.specs.declared.Shape.TheVariants.{Straight, Pop, Jump, JumpC, JumpTF, Iter}
use Rattle.shape.specs.declared.Shape.TheVariants.{Next, Switch, Leave, Call, CallExternal, Enter, Rtn}
use Rattle.shape.specs.declared.Table.{Table}
use Rattle.switch_table.specs.Switch.{exit_label}
use Rattle.stackmap.specs.Ways.{is_iter, is_switch, iter_start, parameters_in, results_in}
use Rattle.compact.specs.declared.top.Top.{Top}
use Rattle.compact_ways.specs.declared.Way.{Way}
use Rattle.compact_ways.specs.declared.Ways.{Ways}
use Rattle.compact_ways.specs.declared.Ways.TheVariants.{Broken, Ended, One, Two, Many}
use Rattle.compact.specs.Tops.{top, poppable, labelled, origin_under, lowered_by}

abbrev pub way : ℕ → ℕ → ℕ → Way
way place height origin = record { place = place; height = height; origin = origin }

abbrev pub toward : ℕ → Top → Way
toward place t = way place t.height t.origin

unfoldable pub in_order : Way → Way → Ways
in_order on away = cond (leb on.place away.place) (Two on away) (Two away on)

unfoldable pub straight_ways : List ℕ → List ℕ → ℕ → Top → ℕ → ℕ → Ways
straight_ways code w next t pops pushes =
    cond (poppable code w t pops) (One (way next (t.height - pops + pushes) t.origin)) Broken

unfoldable pub pop_ways : List ℕ → List ℕ → ℕ → Top → ℕ → Ways
pop_ways code w next t n = cond (leb n t.height) (One (toward next (lowered_by code w n t))) Broken

unfoldable pub jump_c_ways : List ℕ → List ℕ → ℕ → ℕ → Top → ℕ → Ways
jump_c_ways code w at next t d =
    cond (poppable code w t 1) (in_order (way next (t.height - 1) t.origin) (way (place_at at d) (t.height - 1) t.origin)) Broken

unfoldable pub jump_tf_ways : List ℕ → List ℕ → ℕ → ℕ → Top → ℕ → Ways
jump_tf_ways code w at next t d =
    cond (poppable code w t 1) (in_order (way next (t.height - 1) t.origin) (toward (place_at at d) t)) Broken

unfoldable pub iter_ways : List ℕ → List ℕ → ℕ → ℕ → Top → ℕ → Ways
iter_ways code w at next t d =
    cond (poppable code w t 4) (in_order (way next (t.height + 1) (at + 1)) (way (place_at at d) (t.height - 4) t.origin)) Broken

-- The label on top, and its origin ITER.
abbrev pub next_from : List ℕ → List ℕ → ℕ → Top → ℕ → Ways
next_from code w next t zero = Broken
next_from code w next t (suc m) =
    cond (is_iter code m && labelled code w t)
    (in_order (way next (t.height - 5) (origin_under w (suc m))) (toward (iter_start m) t)) Broken

unfoldable pub next_ways : List ℕ → List ℕ → ℕ → Top → Ways
next_ways code w next t = next_from code w next t t.origin

-- The label on top, and its origin a switch.
abbrev pub leave_from : List ℕ → List ℕ → Top → ℕ → Ways
leave_from code w t zero = Broken
leave_from code w t (suc m) =
    cond (is_switch code m && labelled code w t) (One (way (exit_label code m) (t.height - 1) (origin_under w (suc m)))) Broken

unfoldable pub leave_ways : List ℕ → List ℕ → Top → Ways
leave_ways code w t = leave_from code w t t.origin

unfoldable pub switch_ways : List ℕ → List ℕ → ℕ → Top → Table → ℕ → Ways
switch_ways code w at t table n = cond (poppable code w t 1) (Many table n (top t.height (at + 1))) Broken

unfoldable pub rtn_ways : Top → ℕ → Ways
rtn_ways t results = cond (eqb t.height results && eqb t.origin 0) Ended Broken

-- The parameters and results of a procedure of library l are those of its own module.
unfoldable pub external_ways : List ℕ → List Library → List ℕ → ℕ → Top → ℕ → ℕ → Ways
external_ways code libraries w next t l c =
    straight_ways code w next t (parameters_in (library_in libraries l).code c) (results_in (library_in libraries l).results c)

unfoldable pub ways_top : List ℕ → List Library → List ℕ → List ℕ → ℕ → ℕ → ℕ → Shape → Top → Ways
ways_top code libraries results w p at next (Straight pops pushes) t = straight_ways code w next t pops pushes
ways_top code libraries results w p at next (Pop n) t = pop_ways code w next t n
ways_top code libraries results w p at next (Jump d) t = One (toward (place_at at d) t)
ways_top code libraries results w p at next (JumpC d) t = jump_c_ways code w at next t d
ways_top code libraries results w p at next (JumpTF d) t = jump_tf_ways code w at next t d
ways_top code libraries results w p at next (Iter d) t = iter_ways code w at next t d
ways_top code libraries results w p at next Next t = next_ways code w next t
ways_top code libraries results w p at next (Switch table n) t = switch_ways code w at t table n
ways_top code libraries results w p at next Leave t = leave_ways code w t
ways_top code libraries results w p at next (Call c) t = straight_ways code w next t (parameters_in code c) (results_in results c)
ways_top code libraries results w p at next (CallExternal l c) t = external_ways code libraries w next t l c
ways_top code libraries results w p at next (Enter par) t = straight_ways code w next t par 0
ways_top code libraries results w p at next Rtn t = rtn_ways t (results_in results p)
