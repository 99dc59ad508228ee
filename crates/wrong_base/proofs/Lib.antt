mod Pruned
