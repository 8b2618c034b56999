-- `build::operation_form` meets its contract: each code finds its row, and one that is none of them finds none.
use mathlib.Core.List.{[]}
use Rattle.opcode.proofs.Rows.{find-rest}
use Rattle.opcode.specs.Table.{operation_table}
use Rattle.opcode.proofs.build.operation_form.Goals as goal

pub returns-in-160 : goal.returns-in-160
returns-in-160 c = rw (← c.byte_at-opcode.ensures, c.in-160.is)

pub returns-in-161 : goal.returns-in-161
returns-in-161 c = rw (← c.byte_at-opcode.ensures, c.in-161.is)

pub returns-in-162 : goal.returns-in-162
returns-in-162 c = rw (← c.byte_at-opcode.ensures, c.in-162.is)

pub returns-in-163 : goal.returns-in-163
returns-in-163 c = rw (← c.byte_at-opcode.ensures, c.in-163.is)

pub returns-in-165 : goal.returns-in-165
returns-in-165 c = rw (← c.byte_at-opcode.ensures, c.in-165.is)

pub returns-in-166 : goal.returns-in-166
returns-in-166 c = rw (← c.byte_at-opcode.ensures, c.in-166.is)

pub returns-in-168 : goal.returns-in-168
returns-in-168 c = rw (← c.byte_at-opcode.ensures, c.in-168.is)

pub returns-in-169 : goal.returns-in-169
returns-in-169 c = rw (← c.byte_at-opcode.ensures, c.in-169.is)

pub returns-in-170 : goal.returns-in-170
returns-in-170 c = rw (← c.byte_at-opcode.ensures, c.in-170.is)

pub returns-in-171 : goal.returns-in-171
returns-in-171 c = rw (← c.byte_at-opcode.ensures, c.in-171.is)

pub returns-in-173 : goal.returns-in-173
returns-in-173 c = rw (← c.byte_at-opcode.ensures, c.in-173.is)

pub returns-in-184 : goal.returns-in-184
returns-in-184 c = rw (← c.byte_at-opcode.ensures, c.in-184.is)

pub returns-in-185 : goal.returns-in-185
returns-in-185 c = rw (← c.byte_at-opcode.ensures, c.in-185.is)

pub returns-in-186 : goal.returns-in-186
returns-in-186 c = rw (← c.byte_at-opcode.ensures, c.in-186.is)

pub returns-in-190 : goal.returns-in-190
returns-in-190 c = rw (← c.byte_at-opcode.ensures, c.in-190.is)

pub returns-in-191 : goal.returns-in-191
returns-in-191 c = rw (← c.byte_at-opcode.ensures, c.in-191.is)

pub returns-in-192 : goal.returns-in-192
returns-in-192 c = rw (← c.byte_at-opcode.ensures, c.in-192.is)

pub returns-in-193 : goal.returns-in-193
returns-in-193 c = rw (← c.byte_at-opcode.ensures, c.in-193.is)

pub returns-in-194 : goal.returns-in-194
returns-in-194 c = rw (← c.byte_at-opcode.ensures, c.in-194.is)

pub returns-in-195 : goal.returns-in-195
returns-in-195 c = rw (← c.byte_at-opcode.ensures, c.in-195.is)

pub returns-in-196 : goal.returns-in-196
returns-in-196 c = rw (← c.byte_at-opcode.ensures, c.in-196.is)

pub returns-in-197 : goal.returns-in-197
returns-in-197 c = rw (← c.byte_at-opcode.ensures, c.in-197.is)

pub returns-in-198 : goal.returns-in-198
returns-in-198 c = rw (← c.byte_at-opcode.ensures, c.in-198.is)

pub returns-in-199 : goal.returns-in-199
returns-in-199 c = rw (← c.byte_at-opcode.ensures, c.in-199.is)

pub returns-in-208 : goal.returns-in-208
returns-in-208 c = rw (← c.byte_at-opcode.ensures, c.in-208.is)

pub returns-in-209 : goal.returns-in-209
returns-in-209 c = rw (← c.byte_at-opcode.ensures, c.in-209.is)

pub returns-in-210 : goal.returns-in-210
returns-in-210 c = rw (← c.byte_at-opcode.ensures, c.in-210.is)

pub returns-in-215 : goal.returns-in-215
returns-in-215 c = rw (← c.byte_at-opcode.ensures, c.in-215.is)

pub returns-in-216 : goal.returns-in-216
returns-in-216 c = rw (← c.byte_at-opcode.ensures, c.in-216.is)

pub returns-in-217 : goal.returns-in-217
returns-in-217 c = rw (← c.byte_at-opcode.ensures, c.in-217.is)

pub returns-in_default : goal.returns-in_default
returns-in_default c = rw (
  ← c.byte_at-opcode.ensures,
  find-rest operation_table [] c.byte_at-opcode.result
      c.in_default.in_default-own.rest,
)
