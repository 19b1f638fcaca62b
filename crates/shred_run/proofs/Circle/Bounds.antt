-- The bounds on the types of a circle's functions, which the calls in it ask for again, before all else that a call asks for.
module _ {A B C D E F R : Type 0} where
  pub bounded : A × (B × (C × (D × (E × F)))) → R → A × (B × (C × (D × (E × (F × R)))))
  bounded within asked = (within.0, (within.1.0, (within.1.1.0, (within.1.1.1.0, (within.1.1.1.1.0, (within.1.1.1.1.1, asked))))))

  pub bounded_beside : {G : Type 0} → A × (B × (C × (D × (E × (F × G))))) → R → A × (B × (C × (D × (E × (F × (G × R))))))
  bounded_beside within asked = (within.0, (within.1.0, (within.1.1.0, (within.1.1.1.0, (within.1.1.1.1.0, (within.1.1.1.1.1.0, (within.1.1.1.1.1.1, asked)))))))
