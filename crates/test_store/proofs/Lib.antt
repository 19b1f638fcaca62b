mod OnlySets
