use Rattle.std.proofs.Common.{rules, ◌≡◌, ◌∙◌, ap, arith, w64, of_z, to_z}
use Rattle.std.proofs.lemmas.Int.{ints}
use Rattle.std.specs.List.{push}
use Rattle.indexmap.specs.IndexMap.{values}
use Rattle.script_text.proofs.Parsing.Naming.{new-name}
use Rattle.script_text.proofs.script.Script.take_resource.Goals as goal

pub returns : goal.returns
returns c =
    let same : to_z w64 (of_z w64 c.in_ok-first.first) ≡ c.in_ok-first.first = omega (arith, ints) in
    let put = new-name c.args.self.now.resources.entries c.insert.new.self.entries c.in_ok-name.name _ c.contains_key.result c.contains_key.ensures c.if-contains_key.false c.in_ok-insert.ensures.entries in
    record {
      name = c.in_ok-name.name.now;
      number = c.in_ok-required-2.field-0.now;
      first = c.in_ok-first.first;
      are = search rules;
      is_name = search rules;
      is_new = put.absent;
      writes = c.in_ok-first.ensures;
      left = λ i. record {
        names = put.names i;
        firsts = (put.values ∙ ap (push (values c.args.self.now.resources)) same) i;
        plan = c.args.self.now.plan.items;
        unended = c.args.self.now.unended.items;
        prints_plan = c.args.self.now.prints_plan;
        manner = c.args.self.now.manner;
      };
    }
