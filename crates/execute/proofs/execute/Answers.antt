-- `execute::execute` meets its contract: each arm is its instruction's line, on the words at their depths.
use Prim.Native.Nat.{◌≤◌}
use native.Mathlib.Omega.{arith}
use Rattle.shape.specs.Shape.{shape_of}
use Rattle.execute.specs.Execute.{execute}
use Rattle.execute.proofs.Top.{found, top-found, load_found, load-address-found, operate-found}
use Rattle.execute.proofs.execute.Goals as goal

pub execute_store-requires : goal.execute_store-requires
unfolding shape_of
execute_store-requires c =
    let pre = c.requires in
    record {
      table_len_bound = pre.table_len_bound;
      calls_value = pre.calls_value;
      offset_bound = rw c.in-Store.is at pre.i_bound;
    }

pub execute_iter-requires : goal.execute_iter-requires
unfolding shape_of
execute_iter-requires c =
    let pre = c.requires in
    record {
      table_len_bound = pre.table_len_bound;
      calls_value = pre.calls_value;
      le_height = rw c.in-Iter.is at pre.i_bound;
    }

pub execute_next-requires : goal.execute_next-requires
unfolding shape_of
execute_next-requires c =
    let pre = c.requires in
    record {
      table_len_bound = pre.table_len_bound;
      calls_value = pre.calls_value;
      le_height = rw c.in-Next.is at pre.i_bound;
    }

pub returns-in-LoadConstant : goal.returns-in-LoadConstant
unfolding execute shape_of
returns-in-LoadConstant c =
    let push-effect = c.push_effect in
    rw (c.in-LoadConstant.is, push-effect.ensures)

pub returns-in-Load : goal.returns-in-Load
unfolding execute shape_of
returns-in-Load c =
    let load-effect = c.load_effect in
    let peek = c.peek in
    let a = c.args in
    let pre = c.requires in
    let l = rw c.in-Load.is at pre.i_bound in
    rw (c.in-Load.is, load-effect.ensures a.copy.now, peek.ensures, load_found _ a.q a.m.now a.s.now _ _ _ _ l)

pub returns-in-LoadAddress : goal.returns-in-LoadAddress
unfolding execute shape_of
returns-in-LoadAddress c =
    let load-address-effect = c.load_address_effect in
    let peek2 = c.peek-in-LoadAddress in
    let a = c.args in
    let pre = c.requires in
    let l = rw c.in-LoadAddress.is at pre.i_bound in
    rw (
      c.in-LoadAddress.is,
      load-address-effect.ensures a.copy.now,
      peek2.ensures,
      load-address-found _ a.q a.m.now a.s.now _ _ _ l,
    )

pub returns-in-Store : goal.returns-in-Store
returns-in-Store c =
    let execute-store = c.execute_store in
    let a = c.args in
    rw c.in-Store.is (execute-store.ensures a.code.now a.copy.now)

pub returns-in-Pop : goal.returns-in-Pop
unfolding execute shape_of
returns-in-Pop c =
    let jump_to = c.jump_to in
    rw (c.in-Pop.is, jump_to.ensures)

pub returns-in-Swap : goal.returns-in-Swap
unfolding execute shape_of
returns-in-Swap c =
    let moved = c.moved in
    let peek4 = c.peek-in-Swap-2 in
    let peek3 = c.peek-in-Swap in
    let a = c.args in
    let pre = c.requires in
    let l : 2 ≤ a.q.height = rw c.in-Swap.is at pre.i_bound in
    rw (
      c.in-Swap.is,
      moved.ensures,
      peek4.ensures,
      peek3.ensures,
      found a.s.now a.q.height 2 0 l (omega arith),
      found a.s.now a.q.height 2 1 l (omega arith),
    )

pub returns-in-Nop : goal.returns-in-Nop
unfolding execute shape_of
returns-in-Nop c =
    let jump-to2 = c.jump_to-in-Nop in
    rw (c.in-Nop.is, jump-to2.ensures)

pub returns-in-Operate : goal.returns-in-Operate
unfolding execute shape_of
returns-in-Operate c =
    let operate-effect = c.operate_effect in
    let peek6 = c.peek-in-Operate in
    let peek5 = c.peek-x in
    let operand-words = c.operand_words in
    let a = c.args in
    let pre = c.requires in
    let l = rw c.in-Operate.is at pre.i_bound in
    rw (
      c.in-Operate.is,
      operate-effect.ensures,
      peek6.ensures,
      peek5.ensures,
      operand-words.ensures,
      operate-found _ _ a.q a.s.now _ l,
    )

pub returns-in-Alloc : goal.returns-in-Alloc
unfolding execute shape_of
returns-in-Alloc c =
    let alloc-effect = c.alloc_effect in
    let peek7 = c.peek-in-Alloc in
    let a = c.args in
    let pre = c.requires in
    let l : 1 ≤ a.q.height = rw c.in-Alloc.is at pre.i_bound in
    rw (c.in-Alloc.is, alloc-effect.ensures, peek7.ensures, top-found a.s.now a.q.height l)

pub returns-in-Free : goal.returns-in-Free
unfolding execute shape_of
returns-in-Free c =
    let Free-effect = c.free_effect in
    let peek8 = c.peek-in-Free in
    let a = c.args in
    let pre = c.requires in
    let l : 1 ≤ a.q.height = rw c.in-Free.is at pre.i_bound in
    rw (c.in-Free.is, Free-effect.ensures, peek8.ensures, top-found a.s.now a.q.height l)

pub returns-in-Jump : goal.returns-in-Jump
unfolding execute shape_of
returns-in-Jump c =
    let jump-effect = c.jump_effect in
    rw (c.in-Jump.is, jump-effect.ensures)

pub returns-in-JumpC : goal.returns-in-JumpC
unfolding execute shape_of
returns-in-JumpC c =
    let jump-c-effect = c.jump_c_effect in
    let peek9 = c.peek-in-JumpC in
    let a = c.args in
    let pre = c.requires in
    let l : 1 ≤ a.q.height = rw c.in-JumpC.is at pre.i_bound in
    rw (c.in-JumpC.is, jump-c-effect.ensures, peek9.ensures, top-found a.s.now a.q.height l)

pub returns-in-JumpT : goal.returns-in-JumpT
unfolding execute shape_of
returns-in-JumpT c =
    let jump-tf-effect = c.jump_tf_effect in
    let peek10 = c.peek-in-JumpT in
    let a = c.args in
    let pre = c.requires in
    let l : 1 ≤ a.q.height = rw c.in-JumpT.is at pre.i_bound in
    rw (c.in-JumpT.is, jump-tf-effect.ensures, peek10.ensures, top-found a.s.now a.q.height l)

pub returns-in-JumpF : goal.returns-in-JumpF
unfolding execute shape_of
returns-in-JumpF c =
    let jump-tf-effect2 = c.jump_tf_effect-in-JumpF in
    let peek11 = c.peek-in-JumpF in
    let a = c.args in
    let pre = c.requires in
    let l : 1 ≤ a.q.height = rw c.in-JumpF.is at pre.i_bound in
    rw (c.in-JumpF.is, jump-tf-effect2.ensures, peek11.ensures, top-found a.s.now a.q.height l)

pub returns-in-Iter : goal.returns-in-Iter
returns-in-Iter c =
    let execute-iter = c.execute_iter in
    let a = c.args in
    rw c.in-Iter.is (execute-iter.ensures a.code.now a.copy.now)

pub returns-in-Next : goal.returns-in-Next
returns-in-Next c =
    let execute-next = c.execute_next in
    let a = c.args in
    rw c.in-Next.is (execute-next.ensures a.code.now a.copy.now)

pub returns-in-Switch : goal.returns-in-Switch
unfolding execute shape_of
returns-in-Switch c =
    let switch-effect = c.switch_effect in
    let peek12 = c.peek-in-Switch in
    let a = c.args in
    let pre = c.requires in
    let l : 1 ≤ a.q.height = rw c.in-Switch.is at pre.i_bound in
    rw (c.in-Switch.is, switch-effect.ensures, peek12.ensures, top-found a.s.now a.q.height l)

pub returns-in-SwitchX : goal.returns-in-SwitchX
unfolding execute shape_of
returns-in-SwitchX c =
    let switch-effect2 = c.switch_effect-in-SwitchX in
    let peek13 = c.peek-in-SwitchX in
    let a = c.args in
    let pre = c.requires in
    let l : 1 ≤ a.q.height = rw c.in-SwitchX.is at pre.i_bound in
    rw (c.in-SwitchX.is, switch-effect2.ensures, peek13.ensures, top-found a.s.now a.q.height l)

pub returns-in-Leave : goal.returns-in-Leave
unfolding execute shape_of
returns-in-Leave c =
    let jump-to3 = c.jump_to-in-Leave in
    let peek14 = c.peek-in-Leave in
    let a = c.args in
    let pre = c.requires in
    let l : 1 ≤ a.q.height = rw c.in-Leave.is at pre.i_bound in
    rw (c.in-Leave.is, jump-to3.ensures, peek14.ensures, top-found a.s.now a.q.height l)

pub returns-in-Call : goal.returns-in-Call
unfolding execute shape_of
returns-in-Call c =
    let call-effect = c.call_effect in
    rw (c.in-Call.is, call-effect.ensures)

pub returns-in-CallExternal : goal.returns-in-CallExternal
unfolding execute shape_of
returns-in-CallExternal c =
    let call-external-effect = c.call_external_effect in
    rw (c.in-CallExternal.is, call-external-effect.ensures)

pub returns-in-Enter : goal.returns-in-Enter
unfolding execute shape_of
returns-in-Enter c =
    let enter-effect = c.enter_effect in
    rw (c.in-Enter.is, enter-effect.ensures)

pub returns-in-Rtn : goal.returns-in-Rtn
unfolding execute shape_of
returns-in-Rtn c =
    let rtn-effect = c.rtn_effect in
    rw (c.in-Rtn.is, rtn-effect.ensures)
