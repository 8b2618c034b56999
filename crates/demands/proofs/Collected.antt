-- The demands: every theorem behind them, in one place.
use Rattle.verifier.proofs.Exactly.{accepts-exactly, refuses-exactly, shows-reached, shows_no_more}
use Rattle.joined.proofs.JoinedCall.{refused-joined}
use Rattle.invariant.proofs.LabelWords.{iter-pushes, switch-pushes}
use Rattle.guarantees.proofs.Refusals.{refused_load, refused_run, count-within-budget, spends-budget}
use Rattle.guarantees.proofs.Steps.{trapped_step, writes-below-height, stays_fit, keeps-protected}
use Rattle.guarantees.proofs.Numbers.{reading-numbers, check-numbers, load-numbers, run-numbers, step-traps}
use Rattle.guarantees.proofs.Runs.{runs-by-steps, names_module}
use Rattle.demands.specs.Demands.{Demand1, Demand2, Demand3, Besides, Demands}
use Rattle.demands.proofs.Sentences.{ends-properly, comes-on, has-place, has-module, has-picture, has-share, keeps-fixed, keeps-sizes}
use Rattle.demands.proofs.Sentences.{keeps-links, leaves-below}
use Rattle.registers.proofs.Words.{reads_back}
use Rattle.demands.proofs.InTurn.{set_in_turn, record_in_turn}

first : Demand1
first =
    record {
      reading = reading-numbers;
      checking = check-numbers;
      loading = load-numbers;
      running = run-numbers;
      trapping = step-traps;
      refused_load = refused_load;
      refused_run = refused_run;
      refused_call = refused-joined;
      trapped_step = trapped_step;
    }

second : Demand2
second = record { accepts = accepts-exactly; runs = runs-by-steps }

third : Demand3
third =
    record {
      ends = ends-properly;
      steps = comes-on;
      place = has-place;
      place_module = has-module;
      picture = has-picture;
      share = has-share;
      fixed = keeps-fixed;
      links = keeps-links;
      below = leaves-below;
      reads_back = reads_back;
      set_in_turn = set_in_turn;
      record_in_turn = record_in_turn;
    }

besides : Besides
besides =
    record {
      refuses = refuses-exactly;
      shows = shows-reached;
      shows_no_more = shows_no_more;
      iter_label = iter-pushes;
      switch_label = switch-pushes;
      sizes = keeps-sizes;
      counts = count-within-budget;
      spends = spends-budget;
      names_module = names_module;
      stays_fit = stays_fit;
      writes_below = writes-below-height;
      protects = keeps-protected;
    }

pub demands : Demands
demands = record { first = first; second = second; third = third; besides = besides }
