-- The states of a run, each with its active calls. 01: "A call is active until its RTN. The last active call's procedure is the running
-- one; with none, procedure 0." 02, K1: "A place names its module."
use Rattle.std.specs.Prelude.{List, [], ◌∷◌, ◌≡◌, ℕ, suc, ◌-◌, length}
use Rattle.opcode.specs.Decode.{decode_at}
use Rattle.opcode.specs.Decode.{Decoded}
use Rattle.opcode.specs.declared.DecodeError.TheVariants.{Unserved, Past}
use Rattle.std.specs.Prelude.{Err, Ok}
use Rattle.shape.specs.Shape.{shape_of}
use Rattle.shape.specs.declared.Shape.{Shape}
use Rattle.shape.specs.Linkage.{Linkage, inside, calling, calling_external, entering, returning, linkage_of}
use Rattle.registers.specs.declared.Registers.{Registers}
use Rattle.registers.specs.Modules.{Modules}
use Rattle.registers.specs.Program.{running as runningProgram}
use Rattle.registers.specs.State.{State}
use Rattle.registers.specs.Memory.{negated}
use Rattle.stackmap.specs.Ways.{Subject, parameters_in}
use Rattle.step.specs.declared.Outcome.TheVariants.{Went}
use Rattle.step.specs.Step.{After, step_in}

-- An active call: its module and procedure; where its share of the stack begins, "at its call, just under its parameter words"; where
-- its link words lie, and what the call wrote there: FP and the return place, or GP, FP and minus the return place; that place.
pub record Call : Type 0 where
  pub member : ℕ
  pub procedure : ℕ
  pub share : ℕ
  pub link : ℕ
  pub words : List ℕ
  pub back : ℕ

abbrev pub running_member : List Call → ℕ
running_member [] = 0
running_member (c ∷ calls) = c.member

abbrev pub running : List Call → ℕ
running [] = 0
running (c ∷ calls) = c.procedure

-- "procedure 0's is the whole stack. It begins there until the procedure returns", and "reaches to the top".
abbrev pub share_of : List Call → ℕ
share_of [] = 0
share_of (c ∷ calls) = c.share

-- The state, and the active calls, the last one first.
pub record Configuration : Type 0 where
  pub state : State
  pub calls : List Call

-- The modules under check, by their numbers.
abbrev pub Subjects : Type 0
Subjects = ℕ → Subject

-- The call that begins: of procedure p of module k.
abbrev pub begun_call : (Us : Subjects) (q : Registers) (k p : ℕ) (words : List ℕ) (next : ℕ) → Call
begun_call Us q k p words next =
    record {
      member = k;
      procedure = p;
      share = q.height - parameters_in (Us k).code p;
      link = q.mp;
      words = words;
      back = next;
    }

abbrev pub callers : List Call → List Call
callers [] = []
callers (c ∷ calls) = calls

-- The active calls after a completed step: CALL and CALL_E begin one, RTN ends the last.
abbrev pub calls_by : Subjects → Registers → (next : ℕ) → Linkage → List Call → List Call
calls_by Us q next inside calls = calls
calls_by Us q next (calling p) calls = begun_call Us q (running_member calls) p (q.fp ∷ next ∷ []) next ∷ calls
calls_by Us q next (calling_external k p) calls =
    begun_call Us q k p (q.gp ∷ q.fp ∷ negated next ∷ []) next ∷ calls
calls_by Us q next (entering par) calls = calls
calls_by Us q next returning calls = callers calls

abbrev pub calls_after : Subjects → Registers → ℕ → Shape → List Call → List Call
calls_after Us q next s calls = calls_by Us q next (linkage_of s) calls

abbrev pub calls_decoded : Subjects → Registers → List Call → Decoded → List Call
calls_decoded Us q calls (Err Unserved) = calls
calls_decoded Us q calls (Err Past) = calls
calls_decoded Us q calls (Ok (i, next)) = calls_after Us q next (shape_of i) calls

abbrev pub step_on : Modules → Configuration → After
step_on Ms c = step_in Ms c.state

abbrev pub advance : Modules → Subjects → Configuration → Configuration
advance Ms Us c =
    let q = c.state.registers in
    let code = (runningProgram Ms q.gp).code in
    record { state = (step_on Ms c).state; calls = calls_decoded Us q c.calls (decode_at code (length code) q.pc) }

-- The configurations of a run of a set: the first, and each after one more completed step that does not finish. Us are the modules under
-- check, by which a callee's parameter words are known.
pub data Visits (Ms : Modules) (Us : Subjects) (first : Configuration) : ℕ → Configuration → Type 0 where
  at_first : Visits Ms Us first 0 first
  one_more : {n : ℕ} {c : Configuration} → Visits Ms Us first n c → (step_on Ms c).outcome ≡ Went
      → Visits Ms Us first (suc n) (advance Ms Us c)
