-- What an interval asks of the walk: nothing, or, of an internal controllable line, the kilowatts between DASI and AEI.
use Rattle.tariff.specs.Reply.{Found}
use Rattle.std.specs.Prelude.{if◌then◌else◌, false, ◌&&◌, pos, ◌-ℤ◌, Ok}
use Rattle.tariff.specs.declared.Kw.{Kw}
use Rattle.tariff.specs.declared.IclInterval.{IclInterval}
use Rattle.tariff.specs.Units.{kw, price, seconds, grains, grains_of}
use Rattle.tariff.specs.Controllable.{icl_ahead_in_range, icl_interval_in_range, icl_is_lower}
use Rattle.tasks.specs.declared.Task.{Task}

-- nothing to price and nothing to add
abbrev pub idle_task : Found → Task
idle_task stop =
    record {
      stop = stop;
      lower = false;
      from = kw (pos 0);
      limit = kw (pos 0);
      pen = price (pos 0);
      s = seconds (pos 0);
      beside = grains (pos 0);
      others = grains (pos 0);
    }

-- the withdrawal is counted inside the cap, beside the kilowatts that are priced
abbrev pub icl_task : (dasi dasw : Kw) → IclInterval → Task
icl_task dasi dasw v =
    record {
      stop = Ok tt;
      lower = icl_is_lower dasi v;
      from = dasi;
      limit = v.aei;
      pen = v.pin;
      s = v.s;
      beside = grains (grains_of (v.aew.0 -ℤ dasw.0) v.pout.0 v.s.0);
      others = grains (pos 0);
    }

-- numbers out of their ranges ask nothing: their hour is refused
unfoldable pub icl_task_of : (dasi dasw : Kw) → IclInterval → Task
icl_task_of dasi dasw v = if icl_ahead_in_range dasi dasw && icl_interval_in_range v then icl_task dasi dasw v else idle_task (Ok tt)
