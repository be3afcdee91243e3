use Rattle.std.proofs.Common.{arith, inl, refl}
use Rattle.clear_book.specs.declared.rules.StoreCause.TheVariants.{Other}
use Rattle.clear_schema.specs.declared.fault.Fault.TheVariants.{Store}
use Rattle.clear_work.proofs.jobs.look_over.Goals as goal

pub returns-then-not-is_autocommit : goal.returns-then-not-is_autocommit
returns-then-not-is_autocommit g c = record {
  said = λ clean t has. tt;
  kept = λ clean t has. record { was_open = λ it. it; committed = λ it. refl };
  survives = λ clean t has. record {
    clean = omega arith;
    shield = λ so. so;
    counts = omega arith;
    limit = refl;
    closes = λ clean it. inl it;
    crash = λ clean db may. inl may;
  };
  why = (Store Other, refl);
  text = tt;
}
