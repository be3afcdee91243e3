-- The tables that a store begins with.
use Rattle.std.specs.Prelude.{List, [], None}
use Rattle.clear_money.specs.Rates.{Rate}
use Rattle.clear_values.specs.Tables.{Tables}

-- the tables of an office without requests, with its opening rates
abbrev pub first_tables : List Rate → Tables
first_tables rates = record {
  rates = rates;
  employers = [];
  reports = [];
  wages = [];
  charges = [];
  bank = [];
  credits = [];
  pieces = [];
  claims = [];
  lists = [];
  runs = [];
  reminders = [];
  requests = [];
  day = None;
  entries = 0;
  serial = 0;
  last_claim = 0;
  last_list = 0;
  last_run = 0;
}
