use Rattle.rstar_vectors.proofs.Fits.{iterator_fits, alone_fits, ordered_fits}
use Rattle.rstar_vectors.proofs.neighbour_rows.fits.Goals as goal

pub returns : goal.returns
returns g c = record {
  with_distances = iterator_fits g.row.P g.row.P-Scalar c.requires g.met.P.Scalar.RTreeNum.narrow;
  alone = alone_fits g.row.P g.row.P-Scalar c.requires g.met.P.Scalar.RTreeNum.narrow;
  ordered = ordered_fits g.row.P g.row.P-Scalar c.requires g.met.P.Scalar.RTreeNum.narrow;
}
