use Rattle.rstar_vectors.proofs.payloads.renumber_int.Goals as goal

pub returns-in-Some-clause-written : goal.returns-in-Some-clause-written
returns-in-Some-clause-written g c = λ _.
    let f = c.in-Some.ensures.found in record {
      before = f.before;
      one = (f.geom, c.in-Some.lent.now);
      after = f.after;
      passes = f.contains;
      was = f.elements;
      is = f.written c.args.number;
      outline = f.outline c.args.number;
    }

pub returns-in-Some-clause-whole : goal.returns-in-Some-clause-whole
returns-in-Some-clause-whole g c = c.in-Some.ensures.found.whole c.args.number
