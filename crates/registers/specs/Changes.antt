-- The registers as instructions change them.
use Rattle.std.specs.Prelude.{cond, List, ℕ, ◌+◌, ◌-◌}
use Rattle.registers.specs.declared.Registers.{Registers}
use Rattle.registers.specs.Memory.{saved_fp, return_word, negated, is_local, link_words, global_link}

-- The registers with another place.
abbrev pub moved : Registers → ℕ → Registers
moved q place = record { pc = place; fp = q.fp; mp = q.mp; gp = q.gp; height = q.height; calls = q.calls }

-- The registers with another place and memory pointer.
abbrev pub sized : Registers → ℕ → ℕ → Registers
sized q place mp = record { pc = place; fp = q.fp; mp = mp; gp = q.gp; height = q.height; calls = q.calls }

-- The registers with another height.
abbrev pub raised : Registers → ℕ → Registers
raised q h = record { pc = q.pc; fp = q.fp; mp = q.mp; gp = q.gp; height = h; calls = q.calls }

-- CALL and CALL_E: MP := MP + 2 or 3, the link words; FP := MP; GP := BASE (lib), for CALL as it was; PC := PROC (p). Their MEMORY
-- lines are in `call_effect` and `call_external_effect`. The manual's CP, which it takes from MEMORY(GP-2), is no register here: the module
-- that runs is the one whose globals GP points at, and word 1 of its data frame is its number.
abbrev pub called : Registers → (links gp entry : ℕ) → Registers
called q links gp entry =
    record {
      pc = entry;
      fp = q.mp + links;
      mp = q.mp + links;
      gp = gp;
      height = q.height;
      calls = q.calls + 1;
    }

-- RTN: PC := MEMORY(FP-1); a local call (PC > 0): MP := FP - 2; FP := MEMORY(MP); an external one: MP := FP - 3; GP := MEMORY(MP);
-- FP := MEMORY(MP+1); PC := -PC. 01: "the saved return address is a code offset".
abbrev pub returned : Registers → List ℕ → Registers
returned q m =
    record {
      pc = cond (is_local m q.fp) (return_word m q.fp) (negated (return_word m q.fp));
      fp = saved_fp m q.fp;
      mp = q.fp - link_words m q.fp;
      gp = cond (is_local m q.fp) q.gp (global_link m q.fp);
      height = q.height;
      calls = q.calls - 1;
    }
